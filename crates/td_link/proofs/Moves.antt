-- Each step of a link keeps its rule. A step that changes one pass keeps what the others know, since they may do what
-- it may not.
use Rattle.std.proofs.Common.{◌≡◌, ◌≢◌, ℕ, zero, suc, true, false, true≢false, List, [], ◌∷◌, ◌++◌, length, set, sym}
use Rattle.std.proofs.Common.{refl, ap, ◌∙◌, subst, ⊎_elim, append_assoc, append-nil, arith, Option, None}
use Rattle.std.specs.Prelude.{All}
use Rattle.std.proofs.lemmas.List.Elements.{All-nil, All-push, All-head, All-tail}
use Rattle.std.proofs.lemmas.Option.{none-some}
use mathlib.Core.Option.{some, some-ne-none}
use lib.ListN.{get_elem?}
use Rattle.crossbeam_queue.specs.Fifo.{Pushes, Pops, Forks, Merges, Learns}
use Rattle.crossbeam_queue.proofs.Lists.{at_set, at_snoc}
use Rattle.td_link.specs.declared.log.Log.{Log}
use Rattle.td_link.specs.Ends.{FitsMark}
use Rattle.td_link.specs.Rule.{log, Knows, Linked}

-- where what was sent is nothing, the queue holds nothing
nothing_left : {T : Type 0} (sent taken items : List T) → sent ≡ taken ++ items → sent ≡ [] → items ≡ []
nothing_left sent [] items e none = sym e ∙ none
nothing_left sent (x ∷ taken) items e none = let c : x ∷ (taken ++ items) ≡ [] = sym e ∙ none in cc

-- where the queue holds nothing, what was taken and what is left are all that was sent
pub left_is : {T : Type 0} (sent taken left popped held : List T) → length held ≡ 0 → sent ≡ popped ++ held → popped
    ≡ taken ++ left
    → sent ≡ taken ++ left
left_is sent taken left popped [] empty whole is = whole ∙ append-nil popped ∙ is
left_is sent taken left popped (x ∷ held) empty whole is = absurd (omega (arith, empty))

module _ {T M : Type 0} where
  -- what is said of each pass, by its number and its view
  abbrev Every : (ℕ → Log T M → Type 0) → List (Log T M) → Type 0
  Every F views = (port : ℕ) (v : Log T M) → get_elem? views port ≡ some v → F port v

  every_set : (F : ℕ → Log T M → Type 0) (views : List (Log T M)) (port : ℕ) (w : Log T M) → F port w
      → ((j : ℕ) (u : Log T M) → j ≢ port → get_elem? views j ≡ some u → F j u) → Every F (set views port w)
  every_set F views port w mine others j u e =
      ⊎_elim (λ (x : (j ≡ port) × (w ≡ u)). subst (λ (y : ℕ × Log T M). F y.0 y.1) (λ i. (sym x.0 i, x.1 i)) mine)
      (λ (x : (j ≢ port) × (get_elem? views j ≡ some u)). others j u x.0 x.1)
      (at_set views port j w u e)

  -- what stands at a place where nothing did before stands at the end
  at_end : (l : List (Log T M)) (a b : Log T M) (j : ℕ) → get_elem? l j ≢ some b → get_elem? (l ++ a ∷ []) j ≡ some b
      → j ≡ length l
  at_end [] a b zero n e = refl
  at_end [] a b (suc j) n e = absurd (some-ne-none b (sym e))
  at_end (x ∷ xs) a b zero n e = absurd (n e)
  at_end (x ∷ xs) a b (suc j) n e = ap suc (at_end xs a b j n e)

  module _ (fits : M → T → Type 0) where
    -- a new queue, with its one pass
    pub begins : Linked fits [] (log true true None [] [] ∷ [])
    begins =
        let first : Log T M = log true true None [] [] in
        record {
          sender = 0;
          taker = 0;
          mark = None;
          sent = [];
          taken = [];
          whole = refl;
          fit = ((λ m is. absurd (none-some m is)), λ _. refl);
          known = every_set (Knows 0 0 None [] []) (first ∷ []) 0 first
              ((λ _. (refl, refl, refl)), λ _. (refl, refl, refl))
              (λ j u other e. absurd (other (at_end [] _ u j (λ x. some-ne-none u (sym x)) e)));
        }

    -- its pass is cut in two
    pub parts : (port : ℕ) (v : Log T M) (mark : Option M) → v.pushes ≡ true → v.pops ≡ true → v.mark ≡ None → v.taken
        ≡ []
        → Forks (Linked fits) port v (log true false mark v.sent []) (log false true mark [] v.taken)
    parts port v mark pushes pops none untaken items views h at =
        let tx : Log T M = log true false mark v.sent [] in
        let rx : Log T M = log false true mark [] v.taken in
        let sends = (h.known port v at).0 pushes in
        let takes = (h.known port v at).1 pops in
        let nothing : h.sent ≡ [] = h.fit.1 (sym sends.1 ∙ none) in
        let cut : List (Log T M) = set views port tx in
        let Was : ℕ → Log T M → Type 0 = λ j u. (u.pushes ≡ true → (j ≡ h.sender) × (u.mark ≡ mark)
        × (u.sent ≡ h.sent)) × (u.pops ≢ true) in
        let was : Every Was cut = every_set Was views port tx ((λ _. (sends.0, refl, sends.2)), λ p. true≢false (sym p))
        (λ j u other e. (
          (λ p. absurd (other (((h.known j u e).0 p).0 ∙ sym sends.0))),
          λ p. other
              (((h.known j u e).1 p).0 ∙ sym takes.0),
        )) in
        record {
          sender = h.sender;
          taker = length cut;
          mark = mark;
          sent = h.sent;
          taken = h.taken;
          whole = h.whole;
          fit = (
            (λ m is. subst (λ (xs : List T). All (fits m) xs)
                (sym (nothing_left h.sent h.taken items h.whole nothing)) (All-nil (fits m))),
            λ _. nothing,
          );
          known = λ j u e.
              ⊎_elim (λ (x : get_elem? cut j ≡ some u). ((was j u x).0, λ p. absurd ((was j u x).1 p)))
              (λ (is : rx ≡ u). (
                (λ p. absurd (true≢false (sym (ap (λ (y : Log T M). y.pushes) is ∙ p)))),
                λ p. (
                  at_end cut rx u j (λ x. (was j u x).1 p) e,
                  ap (λ (y : Log T M). y.mark) (sym is),
                  ap (λ (y : Log T M). y.taken) (sym is) ∙ takes.2,
                ),
              ))
              (at_snoc cut rx u j e);
        }

    pub sends : (n port : ℕ) (v : Log T M) (x : T) → v.pushes ≡ true → v.mark ≢ None → FitsMark fits v.mark x
        → Pushes (Linked fits) n port v x (λ w. w ≡ log v.pushes v.pops v.mark (v.sent ++ x ∷ []) v.taken)
    sends n port v x may marked good items views room h at =
        let w : Log T M = log v.pushes v.pops v.mark (v.sent ++ x ∷ []) v.taken in
        let mine = h.known port v at in
        let k = mine.0 may in
        let sent = h.sent ++ x ∷ [] in (
          w,
          record {
            sender = h.sender;
            taker = h.taker;
            mark = h.mark;
            sent = sent;
            taken = h.taken;
            whole = ap (λ l. l ++ x ∷ []) h.whole ∙ append_assoc h.taken items (x ∷ []);
            fit = (
              (λ m is. All-push (fits m) items x (h.fit.0 m is) (good m (k.1 ∙ is))),
              λ none. absurd (marked (k.1 ∙ none)),
            );
            known = every_set (Knows h.sender h.taker h.mark sent h.taken) views port w
                ((λ _. (k.0, k.1, ap (λ l. l ++ x ∷ []) k.2)), mine.1)
                (λ j u other e. ((λ p. absurd (other (((h.known j u e).0 p).0 ∙ sym k.0))), (h.known j u e).1));
          },
          refl,
        )

    pub takes : (port : ℕ) (v : Log T M) → v.pops ≡ true
        → Pops (Linked fits) port v (λ x w. (w ≡ log v.pushes v.pops v.mark v.sent (v.taken ++ x ∷ []))
        × FitsMark fits v.mark x)
    takes port v may x items views h at =
        let w : Log T M = log v.pushes v.pops v.mark v.sent (v.taken ++ x ∷ []) in
        let mine = h.known port v at in
        let k = mine.1 may in
        let taken = h.taken ++ x ∷ [] in (
          w,
          record {
            sender = h.sender;
            taker = h.taker;
            mark = h.mark;
            sent = h.sent;
            taken = taken;
            whole = h.whole ∙ sym (append_assoc h.taken (x ∷ []) items);
            fit = ((λ m is. All-tail (fits m) x items (h.fit.0 m is)), h.fit.1);
            known = every_set (Knows h.sender h.taker h.mark h.sent taken) views port w
                (mine.0, λ _. (k.0, k.1, ap (λ l. l ++ x ∷ []) k.2))
                (λ j u other e. ((h.known j u e).0, λ p. absurd (other (((h.known j u e).1 p).0 ∙ sym k.0))));
          },
          (refl, λ m is. All-head (fits m) x items (h.fit.0 m (sym k.1 ∙ is))),
        )

    pub drains : (port : ℕ) (v : Log T M) → v.pops ≡ true
        → Pops (Linked fits) port v (λ x w. w ≡ log v.pushes v.pops v.mark v.sent (v.taken ++ x ∷ []))
    drains port v may x items views h at = let r = takes port v may x items views h at in (r.0, r.1, r.2.0)

    -- the passes of the two ends become one
    pub meets : (port : ℕ) (v : Log T M) (other : ℕ) (u : Log T M) → v.pushes ≡ true → u.pops ≡ true
        → Merges (Linked fits) port v other u (log true true v.mark v.sent u.taken) (log false false None [] [])
    meets port v other u pushes pops items views h at apart there =
        let both : Log T M = log true true v.mark v.sent u.taken in
        let spent : Log T M = log false false None [] [] in
        let sends = (h.known port v at).0 pushes in
        let met : List (Log T M) = set views port both in
        let was : get_elem? views other ≡ some u =
        ⊎_elim (λ (x : (other ≡ port) × (both ≡ u)). absurd (apart x.0))
        (λ (x : (other ≢ port) × (get_elem? views other ≡ some u)). x.1)
        (at_set views port other both u there) in
        let takes = (h.known other u was).1 pops in
        let Now : ℕ → Log T M → Type 0 = λ j y. j ≢ other → Knows h.sender port h.mark h.sent h.taken j y in
        let now : Every Now met = every_set Now views port both (λ _. ((λ _. sends), λ _. (refl, sends.1, takes.2)))
        (λ j y _ e away. ((h.known j y e).0, λ p. absurd (away (((h.known j y e).1 p).0 ∙ sym takes.0)))) in
        record {
          sender = h.sender;
          taker = port;
          mark = h.mark;
          sent = h.sent;
          taken = h.taken;
          whole = h.whole;
          fit = h.fit;
          known = every_set (Knows h.sender port h.mark h.sent h.taken) met other spent
              ((λ p. absurd (true≢false (sym p))), λ p. absurd (true≢false (sym p)))
              (λ j y away e. now j y e away);
        }

    -- the queue holds the last of what was sent
    pub last_held : (port : ℕ) (v : Log T M) → v.pushes ≡ true
        → Learns (Linked fits) port v (λ items. (taken : List T) × (v.sent ≡ taken ++ items))
    last_held port v may items views h at = (h.taken, ((h.known port v at).0 may).2 ∙ h.whole)

    -- the queue holds what comes next
    pub next_held : (port : ℕ) (v : Log T M) → v.pops ≡ true
        → Learns (Linked fits) port v (λ items. (sent : List T) × (sent ≡ v.taken ++ items))
    next_held port v may items views h at = (h.sent, h.whole ∙ ap (λ l. l ++ items) (sym ((h.known port v at).1 may).2))

    -- of one that knows both
    pub all_held : (port : ℕ) (v : Log T M) → v.pushes ≡ true → v.pops ≡ true
        → Learns (Linked fits) port v (λ items. v.sent ≡ v.taken ++ items)
    all_held port v pushes pops items views h at =
        let k = h.known port v at in
        (k.0 pushes).2 ∙ h.whole ∙ ap (λ l. l ++ items) (sym (k.1 pops).2)
