use Rattle.std.proofs.Common.{◌∙◌, List, length, sym, ap, ◌+◌, ℕ}
use Rattle.std.specs.Prelude.{slice_get}
use Rattle.std.proofs.lemmas.List.{length_push}
use Rattle.td_seat.specs.declared.counted.Counted.{Counted}
use Rattle.td_seat.proofs.NextSite.{one_more_site}
use Rattle.td_seat.proofs.made.Made.push.Goals as goal

pub returns : goal.returns
returns c =
    let sites = c.args.self.now.sites.items in
    record {
      ok =
          λ n all entries h new. record {
            sites =
                ap length c.in_ok-push.ensures.items ∙ length_push sites c.args.counted
                ∙ ap (λ (k : ℕ). k + 1) h.sites ∙ sym (length_push all entries);
            each =
                λ k found is.
                one_more_site n all entries sites c.args.counted h.sites h.each new k found
                (ap (λ (list : List Counted). slice_get list k) (sym c.in_ok-push.ensures.items) ∙ is);
          };
    }
