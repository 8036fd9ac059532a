-- How long spellings are.
use Rattle.std.proofs.Common.{◌≡◌, ℕ, ◌+◌, ◌*◌, ◌<◌, ◌≤◌, List, [], ◌∷◌, ◌++◌, length, map, take, get_or, add-one, refl}
use Rattle.std.proofs.Common.{sym, ap, subst, ◌∙◌, arith}
use Rattle.std.specs.List.{concat, flat_map}
use Rattle.std.proofs.lemmas.List.{length-append, length-map, append-nil, length-take-le}
use Rattle.std.proofs.Math.Seq.{take-suc}
use Rattle.std.proofs.lemmas.List.Concat.{flat_map-cons, flat_map-append}
use Rattle.td_base.specs.Run.{IsRun}
use Rattle.td_base.specs.Value.{AtomIdValue}
use Rattle.td_path.specs.declared.slot.Slot.{Slot}
use Rattle.td_path.specs.declared.slot.Slot.TheVariants.{Root, At}
use Rattle.td_op.specs.declared.body.Body.{Body}
use Rattle.td_op.specs.declared.body.Body.TheVariants.{Insert, Delete, Propose, Commit, Abort}
use Rattle.td_op.specs.declared.message.Message.{Message}
use Rattle.td_op.specs.declared.message.Message.TheVariants.{Op, Vote}
use Rattle.td_op.specs.declared.vote.Vote.{Vote as VoteValue}
use Rattle.td_op.specs.Op.{OpValue}
use Rattle.td_op.specs.Message.{IsBody, IsMessage}
use Rattle.td_wire.specs.declared.format.Format.{Format}
use Rattle.td_wire.specs.declared.format.Format.TheVariants.{One, Two}
use Rattle.td_wire.specs.declared.length.TheConstants.{DOT_LEN, IDENTITY_LEN, MAX_SLOT_LEN, MAX_RUN_PART_LEN}
use Rattle.td_wire.specs.declared.length.TheConstants.{MAX_DEPS_LEN, MAX_BODY_LEN, MAX_OP_LEN, MAX_PACKET_LEN}
use Rattle.td_base.specs.declared.site.TheConstants.{MAX_SITE}
use Rattle.td_wire.specs.Format.{CanSay}
use Rattle.td_wire.specs.Spelling.{number_bytes, dot_bytes, identity_bytes, slot_bytes, run_bytes, deps_bytes, kind}
use Rattle.td_wire.specs.Spelling.{body_bytes, op_bytes, vote_bytes, spelling, Spells}
use Rattle.td_wire.proofs.Runs.{from_run}

pub length_numbers : (v : List ℕ) → length (flat_map number_bytes v) ≡ 4 * length v
length_numbers [] = refl
length_numbers (n ∷ v) = let rest = length_numbers v in
    omega (
      arith,
      rest,
      ap length (flat_map-cons number_bytes n v),
      length-append (number_bytes n)
          (flat_map number_bytes v),
    )

pub identity_short : (f : Format) (x : AtomIdValue) → length (identity_bytes f x) ≤ IDENTITY_LEN
identity_short One x = omega arith
identity_short Two x = omega arith

pub slot_short : (f : Format) (s : Slot) → length (slot_bytes f s) ≤ MAX_SLOT_LEN
slot_short f Root = omega arith
slot_short f (At atom b) = let i = identity_short f atom in omega arith

pub run_short : (f : Format) (atoms : List (List ℕ)) → IsRun atoms → length (run_bytes f atoms) ≤ MAX_RUN_PART_LEN
run_short One atoms r = let count = (from_run atoms r).0 in
    omega (arith, length-append (map length atoms) (concat atoms), length-map atoms length, count.most, r.short)
run_short Two atoms r = let count = (from_run atoms r).0 in
    omega (arith, length-append (map length atoms) (concat atoms), length-map atoms length, count.most, r.short)

body_short : (f : Format) (b : Body) → IsBody b → length (body_bytes f b) ≤ MAX_BODY_LEN
body_short f (Insert s atoms) h = let a = slot_short f s in let b = run_short f atoms h.1 in
    omega (arith, length-append (slot_bytes f s) (run_bytes f atoms), a, b)
body_short f (Delete target) h = let i = identity_short f target in omega arith
body_short f (Propose s) h = let a = slot_short f s in omega arith
body_short f (Commit proposal) h = omega arith
body_short f (Abort proposal) h = omega arith

message_short : (f : Format) (m : Message) → IsMessage m → length (spelling f m) ≤ MAX_PACKET_LEN
message_short One (Op o) h =
    let b = body_short One o.body h.body in let n = length_numbers o.deps in
    omega (arith, b, n, h.deps.short, length-append (dot_bytes o.dot ++ deps_bytes o.deps) (body_bytes One o.body))
message_short Two (Op o) h =
    let b = body_short Two o.body h.body in let n = length_numbers o.deps in
    omega (arith, b, n, h.deps.short, length-append (dot_bytes o.dot ++ deps_bytes o.deps) (body_bytes Two o.body))
message_short One (Vote v) h = omega arith
message_short Two (Vote v) h = omega arith

pub spelling_short : (f : Format) (m : Message) → CanSay f m → length (spelling f m) ≤ MAX_PACKET_LEN
spelling_short One m h = message_short One m h.0
spelling_short Two m h = message_short Two m h

-- the numbers up to a place
pub numbers_more : (v : List ℕ) (i : ℕ) → i < length v
    → flat_map number_bytes (take (i + 1) v) ≡ flat_map number_bytes (take i v) ++ number_bytes (get_or v i 0)
numbers_more v i lt =
    ap (flat_map number_bytes) (ap (λ (k : ℕ). take k v) (add-one i) ∙ take-suc v i 0 lt)
    ∙ flat_map-append number_bytes (take i v) (get_or v i 0 ∷ [])
    ∙ ap (λ (ys : List ℕ). flat_map number_bytes (take i v) ++ ys)
    (flat_map-cons number_bytes (get_or v i 0) [] ∙ append-nil (number_bytes (get_or v i 0)))

pub deps_room : (old v bytes : List ℕ) (i : ℕ) → length old + MAX_DEPS_LEN ≤ MAX_PACKET_LEN → length v ≤ MAX_SITE
    → i < length v
    → bytes ≡ old ++ length v ∷ flat_map number_bytes (take i v) → length bytes + 4 ≤ MAX_PACKET_LEN
deps_room old v bytes i short size lt is =
    omega (
      arith,
      short,
      size,
      lt,
      ap length is,
      length-append old (length v ∷ flat_map number_bytes (take i v)),
      length_numbers (take i v),
      length-take-le i v (omega (arith, lt)),
    )

pub deps_short : (old dot v bytes after_kind after_dot : List ℕ) (k : ℕ) → length old + MAX_OP_LEN ≤ MAX_PACKET_LEN
    → length v ≤ MAX_SITE
    → length dot ≡ DOT_LEN → after_kind ≡ old ++ k ∷ [] → after_dot ≡ after_kind ++ dot
    → bytes ≡ after_dot ++ deps_bytes v
    → length bytes + MAX_BODY_LEN ≤ MAX_PACKET_LEN
deps_short old dot v bytes after_kind after_dot k short size five first second third =
    omega (
      arith,
      short,
      size,
      five,
      ap length first,
      length-append old (k ∷ []),
      ap length second,
      length-append after_kind dot,
      ap length third,
      length-append after_dot (deps_bytes v),
      length_numbers v,
    )

-- what is written behind the mark
op_is : (o : OpValue) (bytes : List ℕ) → bytes ≡ spelling Two (Op o) → IsMessage (Op o) → Spells Two (Op o) bytes
op_is o bytes is can = record { can = can; bytes_are = is }

pub op_spelled : (m : Message) (o : OpValue) (empty start bytes : List ℕ) → m ≡ Op o → empty ≡ []
    → start ≡ empty ++ 84 ∷ 50 ∷ [] → bytes ≡ start ++ kind o.body ∷ op_bytes Two o → IsMessage (Op o)
    → Spells Two m bytes
op_spelled m o empty start bytes e none first behind can =
    let is : bytes ≡ spelling Two (Op o) = behind
    ∙ ap (λ (ys : List ℕ). ys ++ kind o.body ∷ op_bytes Two o)
    (first ∙ ap (λ (ys : List ℕ). ys ++ 84 ∷ 50 ∷ []) none) in
    subst (λ (n : Message). Spells Two n bytes) (sym e) (op_is o bytes is can)

pub vote_spelled : (m : Message) (v : VoteValue) (empty start bytes : List ℕ) → m ≡ Vote v → empty ≡ []
    → start ≡ empty ++ 84 ∷ 50 ∷ [] → bytes ≡ start ++ 6 ∷ vote_bytes v → IsMessage (Vote v)
    → Spells Two m bytes
vote_spelled m v empty start bytes e none first behind can =
    let is : bytes ≡ spelling Two (Vote v) = behind
    ∙ ap (λ (ys : List ℕ). ys ++ 6 ∷ vote_bytes v) (first ∙ ap (λ (ys : List ℕ). ys ++ 84 ∷ 50 ∷ []) none) in
    let made : Spells Two (Vote v) bytes = record { can = can; bytes_are = is } in
    subst (λ (n : Message). Spells Two n bytes) (sym e) made
