-- A site that goes on stays the same site.
use Rattle.std.proofs.Common.{◌≡◌, ℕ, Bool, [], ◌∷◌, List, refl, sym, ap, ◌∙◌, subst}
use mathlib.Core.List.{IsPrefix}
use Rattle.td_op.specs.Input.{IsInput}
use Rattle.td_op.specs.declared.change.Change.{Change}
use Rattle.td_op.specs.declared.input.Input.{Input}
use Rattle.td_machine.specs.Step.{step}
use Rattle.td_machine.proofs.Growing.{step_sends}
use Rattle.td_replica.specs.Replica.{ReplicaValue, IsReplica, after_step}
use Rattle.td_view.specs.declared.publish.Publish.{Publish}
use Rattle.td_view.specs.Values.{WriterValue, after_publish, next_publish}
use Rattle.td_site.specs.Sites.{SiteValue}
use Rattle.td_site.specs.Later.{LaterSite}
use Rattle.td_site.proofs.Lists.{prefix_self, prefix_then}
use Rattle.td_site.proofs.Showing.{same_site, same_size}

pub later_then : (s t u : SiteValue) → LaterSite s t → LaterSite t u → LaterSite s u
later_then s t u a b =
    record {
      entries = prefix_then s.replica.entries t.replica.entries u.replica.entries a.entries b.entries;
      sent = prefix_then s.replica.machine.sent t.replica.machine.sent u.replica.machine.sent a.sent b.sent;
      site = b.site ∙ a.site;
      size = b.size ∙ a.size;
      views = b.views ∙ a.views;
      publishes = prefix_then s.writer.publishes t.writer.publishes u.writer.publishes a.publishes b.publishes;
    }

-- where the replica stays
pub later_shown : (s t : SiteValue) → t.replica ≡ s.replica → t.writer.views ≡ s.writer.views
    → IsPrefix s.writer.publishes t.writer.publishes → LaterSite s t
later_shown s t e views more =
    record {
      entries = subst (λ (x : ReplicaValue). IsPrefix s.replica.entries x.entries) (sym e)
          (prefix_self s.replica.entries);
      sent = subst (λ (x : ReplicaValue). IsPrefix s.replica.machine.sent x.machine.sent) (sym e)
          (prefix_self s.replica.machine.sent);
      site = ap (λ (x : ReplicaValue). x.machine.site) e;
      size = ap (λ (x : ReplicaValue). x.machine.size) e;
      views = views;
      publishes = more;
    }

pub later_published : (s : SiteValue) (w : WriterValue) (late : Bool) (upto : ℕ) (changes : List Change)
    → w ≡ after_publish s.writer upto changes → LaterSite s (record { replica = s.replica; writer = w; late = late })
later_published s w late upto changes is =
    later_shown s (record { replica = s.replica; writer = w; late = late }) refl
    (ap (λ (x : WriterValue). x.views) is)
    (next_publish s.writer upto changes ∷ [], sym (ap (λ (x : WriterValue). x.publishes) is))

pub later_self : (s : SiteValue) → LaterSite s s
later_self s = later_shown s s refl refl (prefix_self s.writer.publishes)

pub later_same : (s t : SiteValue) → t ≡ s → LaterSite s t
later_same s t e = subst (λ (x : SiteValue). LaterSite s x) (sym e) (later_self s)

-- where the writer stays
pub later_step : (s t : SiteValue) (input : Input) → IsReplica s.replica → IsInput input
    → t.replica ≡ after_step input s.replica → t.writer ≡ s.writer → LaterSite s t
later_step s t input i valid replica writer =
    let sends = step_sends s.replica.machine input in
    record {
      entries = (
        record { input = input; reply = (step s.replica.machine input).reply } ∷ [],
        sym (ap (λ (x : ReplicaValue). x.entries) replica),
      );
      sent = (sends.0, sym (ap (λ (x : ReplicaValue). x.machine.sent) replica ∙ sends.1));
      site = ap (λ (x : ReplicaValue). x.machine.site) replica ∙ same_site s.replica i input valid;
      size = ap (λ (x : ReplicaValue). x.machine.size) replica ∙ same_size s.replica i input valid;
      views = ap (λ (w : WriterValue). w.views) writer;
      publishes = subst (λ (l : List Publish). IsPrefix s.writer.publishes l)
          (sym (ap (λ (w : WriterValue). w.publishes) writer)) (prefix_self s.writer.publishes);
    }
