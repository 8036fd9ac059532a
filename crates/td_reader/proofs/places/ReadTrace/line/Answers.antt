use Rattle.std.proofs.Common.{◌≤◌, slice_get, List, ℕ, length, sym, ap, refl, subst, ◌∙◌}
use Rattle.std.proofs.lemmas.Option.{slice_get_read}
use Rattle.td_reader.proofs.Faults.{line_is, line_is_there, no_line_is, start_within}
use Rattle.td_reader.proofs.Kept.{seen}
use Rattle.td_reader.proofs.places.ReadTrace.line.Goals as goal

pub returns-in_default : goal.returns-in_default
returns-in_default c =
    let s = seen c.self.inside.bytes.now c.self.inside.starts.items c.self.inside.parts c.self.inside.sites
    c.args.self.now c.self.invariant c.self.view_is in
    let past = c.in_default.ensures.lookup.3 in
    no_line_is c.self.inside.bytes.now c.self.inside.starts.items c.self.invariant.lines c.args.k
    (subst (λ (xs : List ℕ). length xs ≤ c.args.k) c.deref.ensures.value past) c.args.self.now s.is

pub split_at-requires : goal.split_at-requires
split_at-requires c =
    let looked = c.in-Some.ensures.lookup in
    let got = slice_get_read c.deref.result.now (length c.deref.result.now) c.args.k c.in-Some.start.now refl
    looked.3.0 looked.1 in
    start_within c.self.inside.bytes.now c.self.inside.starts.items c.self.invariant.lines c.args.k
    c.in-Some.start.now
    (ap (λ (xs : List ℕ). slice_get xs c.args.k) (sym c.deref.ensures.value) ∙ got)

pub returns-in_default-line : goal.returns-in_default-line
returns-in_default-line c =
    let looked = c.in-Some.ensures.lookup in
    let got = slice_get_read c.deref.result.now (length c.deref.result.now) c.args.k c.in-Some.start.now refl
    looked.3.0 looked.1 in
    absurd (line_is_there c.self.inside.bytes.now c.self.inside.starts.items c.split_at.result.1.now
    c.self.invariant.lines
    c.args.k c.in-Some.start.now
    (ap (λ (xs : List ℕ). slice_get xs c.args.k) (sym c.deref.ensures.value)
    ∙ got) c.split_at.ensures.back c.in_default-line.ensures)

pub returns : goal.returns
returns c =
    let s = seen c.self.inside.bytes.now c.self.inside.starts.items c.self.inside.parts c.self.inside.sites
    c.args.self.now c.self.invariant c.self.view_is in
    let looked = c.in-Some.ensures.lookup in
    let got = slice_get_read c.deref.result.now (length c.deref.result.now) c.args.k c.in-Some.start.now refl
    looked.3.0 looked.1 in
    line_is c.self.inside.bytes.now c.self.inside.starts.items c.split_at.result.1.now c.self.invariant.lines c.args.k
    c.in-Some.start.now _ _
    (ap (λ (xs : List ℕ). slice_get xs c.args.k) (sym c.deref.ensures.value)
    ∙ got) c.split_at.ensures.back c.in-Some-line.ensures c.args.self.now s.is
