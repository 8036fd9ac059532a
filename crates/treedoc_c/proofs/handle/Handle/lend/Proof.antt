-- `lend` lends the value behind the address, and the handle follows it.
use mathlib.Core.Path.{◌≡◌, refl, sym}
use Prim.Native.Nat.{ℕ}
use mathlib.Core.List.{List, [], ◌∷◌}
use seplogic.Ra.Ura.{Ura}
use base.Fraction.{full_share}
use mir.Syntax.{named}
use mir.Val.{Val, vptr}
use base.Logic.{SProp, ent, sep, id⊢}
use base.Fml.{Lft, GName, Share, Fml, ftrue, flft, fsep}
use prog.Memory.{Memory}
use prog.Routine.{Routine}
use prog.Wp.{Env, Calls, Loops, WpFn, Tables}
use types.Logic.{Logic, sem}
use sound.WpLaws.{WpFn-mono}
use types.Kit.{‵, ◌⊛◌, some, at_ret, ◌$◌, ◌∵◌, !, qed, by, move, keep, use1, drop, split, join, pick, fsplit, fsplit3}
use types.Kit.{fjoin, suffices, frame, done, raw, later, await, group, fpack, rewrite}
use types.Part.{whole, sub, look_in}
use types.Run.{stop, fld, load, of_opd, first, blocks, exec, returns, enter, addr}
use types.ByLocal.{alloc_all, pass_all, free_all, look_at, get, through, sets, env, sets_last}
use contract.Monad.{Fun, fact}
use contract.Running.{tables, tables_of}
use denote.Exit.{no}
use denote.RattleType.{RattleType, owns}
use denote.Memory.{part_at, mem, cell_at, part_of}
use denote.RawPtr.{Ptr, block_ptr}
use denote.Ref.{MutRef, MutBor, mut_vals, mut_Tells}
use denote.Signature.{plain, mut_ref_to}
use denote.Steps.{heard, nothing, opens}
use denote.Follow.{follows, Part, lends_Part}
use denote.Triple.Entry.{on_entry}
use denote.Triple.Spec.{Meets, triple_of}
use denote.Triple.Table.{entered}
use denote.Triple.Walked.{says, Stays, stay_dropped, walk_of, ends_at, walked, walk_Meets, Goes-spent_ref}
use mir.Raw.{raw as bare}
use Rattle.core.proofs.alloc.Calls.{token}
use Rattle.std.specs.Prelude.{Some, None, IsSome}
use Rattle.std.proofs.Common.{true≢false}
use Rattle.std_heap.specs.declared.Global.{Global}
use Rattle.std_alloc.proofs.VecSteps.Shapes.{after}
use Rattle.std_alloc.proofs.BoxSteps.Form.{X, D, B, R, τ, word, handle}
use Rattle.std_alloc.proofs.BoxSteps.Steps.{box_out, box_in}
use Rattle.treedoc_c.specs.Owned.{Held, held}
use Rattle.treedoc_c.specs.Lent.{with_value}
use Rattle.treedoc_c.specs.declared.handle.Handle.{Handle}
use Rattle.treedoc_c.proofs.AsBox.{E}
use Rattle.td_session.specs.contracts.session.Session as Inner
use Rattle.treedoc_c.specs.contracts.handle.Handle as Shape
use Rattle.treedoc_c.specs.contracts.handle.Handle.lend as F
use Rattle.treedoc_c.specs.contracts.handle.Handle.lend.Key.{name as #self}
use Rattle.treedoc_c.proofs.handle.Handle.lend.Statement as stated
use Rattle.treedoc_c.proofs.handle.Handle.lend.Code as code

abbrev Whole : RattleType
Whole = Shape.the_row

abbrev Lent : RattleType
Lent = Inner.the_row

abbrev stayed : Stays (F.ended).signature.params (F.ended).kept
stayed = (stay_dropped (mut_ref_to (0 ∷ []) tt (plain (λ _. Whole))) no, tt)

module _ {M : Type 1} {𝓤 : Ura M} (𝓛 : Logic 𝓤) (at_mem : Memory → SProp 𝓤) (run : Routine
    → Fun 𝓤) (κ : Lft) (q : Share) (rb ro : ℕ) (γ : GName) where
  open 𝓛 use {H, A}

  abbrev here : Ptr → Global → Held → MutBor Handle
  here p a m = record { ref_ptr = (rb, ro); ghost_name = γ; now = record { ptr = p; alloc = a; value = m } }

  abbrev bound : Ptr → Global → Held → (walk_of 𝓛 F.ended stayed (F.clauses 𝓛 at_mem run)).Ghost
  bound p a m = (((κ, tt), (q, tt), tt, (here p a m, tt), (vptr rb ro ∷ [], tt)), tt)

  abbrev Post : Ptr → Global → Held → Val → SProp 𝓤
  Post p a m = (walk_of 𝓛 F.ended stayed (F.clauses 𝓛 at_mem run)).post (bound p a m)

  abbrev Entry : Ptr → Global → Held → SProp 𝓤
  Entry p a m = on_entry 𝓛 F.signature (κ, tt) (q, tt) (here p a m, tt) (vptr rb ro ∷ [], tt)

  module _ (p : Ptr) (a : Global) (x : X E) where
    abbrev h : Handle
    h = record { ptr = p; alloc = a; value = Some x }

    abbrev v : X E → D E
    v w = record { ptr = p; alloc = a; value = w }

    module _ (b o : ℕ) (hv : Val) where
      -- all of the handle but its value
      abbrev Rest : Fml
      Rest = fsep (fsep (token E.al a (bare (τ E)) (block_ptr b o)) (handle E a hv))
          (cell_at full_share Whole.mir (word E hv b o ∷ []) rb ro)

      back : p ≡ block_ptr b o → (w : X E)
          → ent 𝓤 (sep 𝓤 (sem 𝓛 ((mem Lent).own_at w b o)) (sem 𝓛 Rest))
          (sem 𝓛 ((mem Whole).own_at (with_value h w) rb ro))
      unfolding part_of held
      back at_b w =
          qed 𝓛 (‵ (part_at (R E) full_share w b o) ∷ ‵ Rest ∷ []) ∵ move ! (1 ∷ []) $ fsplit ! $ fsplit ! $
          move ! (3 ∷ []) $
          box_in E ! (v w) b o w at_b refl $
          use1 𝓛 (‵ (Whole.own_val (with_value h w) (word E hv b o ∷ []))) (id⊢ 𝓤 _) $ move ! (1 ∷ 0 ∷ []) $
          fjoin ! $
          fpack ! (List Val) (λ us. fsep (cell_at full_share Whole.mir us rb ro)
          (Whole.own_val (with_value h w) us)) (word E hv b o ∷ []) $ done !

      exits : (γ' : GName)
          → ent 𝓤 (sep 𝓤 (sem 𝓛 ((MutRef (named 0) κ Lent).own_val (record {
            ref_ptr = (b, o);
            ghost_name =
                γ';
            now = x;
          }) (vptr b o
          ∷ []))) (sep 𝓤 (A.lft κ q) (sem 𝓛 (follows Whole Lent γ γ' (with_value h))))) (Post p a (Some x)
          (vptr b o))
      exits γ' =
          qed 𝓛 (‵ ((MutRef (named 0) κ Lent).own_val (record {
            ref_ptr = (b, o);
            ghost_name = γ';
            now =
                x;
          }) (vptr b o ∷ [])) ∷ ‵ (flft κ q) ∷ ‵ (follows Whole Lent γ γ' (with_value h)) ∷ []) ∵
          suffices ! _ (ends_at 𝓛 F.ended stayed (F.clauses 𝓛 at_mem run) (bound p a (Some x)) (vptr b o)
          (record { ref_ptr = (b, o); ghost_name = γ'; now = x }) (tt, tt) (tt, tt)) $
          nothing ! $ nothing ! $ fjoin ! $ join ! $ nothing ! $ move ! (2 ∷ 0 ∷ []) $ join ! $ join ! $ frame ! $
          says ! refl $ done !

    module _ (C : Calls 𝓤 H) (Λ : Loops 𝓤 H) where
      walk : ent 𝓤 (sep 𝓤 (Entry p a (Some x)) (fact 𝓤 (IsSome (Some x))))
          (WpFn 𝓤 H C Λ code.function (vptr rb ro ∷ []) (Post p a (Some x)))
      unfolding held
      walk =
          qed 𝓛 (((‵ (flft κ q) ⊛ ‵ ftrue) ⊛ ‵ (owns (MutRef (named 0) κ Whole
          ∷ []) (here p a (Some x), tt) (vptr rb ro ∷ [], tt))) ∷ raw (fact 𝓤 (IsSome (Some x))) ∷ []) ∵
          move ! (1 ∷ []) $ drop ! $ split ! $
          enter ! C Λ code.function (vptr rb ro ∷ []) _ $
          alloc_all ! (λ l. pass_all ! refl ((tt, tt), tt) $
          let En : Env 𝓤 H = env (code.function).locals l in
          move ! (1 ∷ []) $ fsplit ! $ fsplit3 ! $ drop ! $ move ! (3 ∷ []) $ split ! $ move ! (2 ∷ 3 ∷ 0 ∷ []) $
          opens ! tt Whole {h = h} rb ro (λ vs. move ! (1 ∷ []) $ use1 𝓛 (‵ ((B E).own_val (v x) vs)) (id⊢ 𝓤 _) $
          box_out E ! (v x) vs (λ b o hv at_b ws fa.
          use1 𝓛 (‵ (part_at Lent full_share x b o)) (id⊢ 𝓤 _) $ move ! (1 ∷ 2 ∷ []) $ fjoin ! $ move ! (1 ∷ []) $
          rewrite ! 2 (λ (us : List Val). ‵ (cell_at full_share Whole.mir us rb ro)) ws refl $
          first ! $ blocks ! $
          sets ! (of_opd ! (load ! (through ! refl (fld ! refl (stop !)))
          (look_in ! 2 (sub ! 0 refl (whole !))))) refl (tt, tt) $
          sets ! (of_opd ! (get ! refl)) refl (tt, tt) $
          sets_last ! (addr ! (through ! refl (stop !))) refl (tt, tt) $
          exec ! C Λ En (after 1 (code.function).body) (at_ret En (Post p a (Some x))) $
          sets ! (of_opd ! (get ! refl)) refl (tt, tt) $
          move ! (1 ∷ 2 ∷ []) $ fjoin ! $ move ! (2 ∷ 3 ∷ 4 ∷ 1 ∷ 0 ∷ []) $ group ! 5 $
          use1 𝓛 (later (some (λ (γ' : GName). raw (Part 𝓛 Whole Lent (with_value h)
          (named 0) κ q rb ro b o γ (sem 𝓛 (Rest b o hv)) (back b o hv at_b) x γ'))))
          (lends_Part 𝓛 Whole Lent (with_value h) (named 0) κ q rb ro b o γ (sem 𝓛 (Rest b o hv))
          (back b o hv at_b) (Whole.coded.code h) (Whole.coded.code h) x) $ await ! tt $ pick ! (λ γ'.
          returns ! (look_at ! 0 refl) $ free_all ! refl $
          keep ! (0 ∷ []) $ by ! (exits b o hv γ')))))

  -- by the value: there is one
  at_each : (C : Calls 𝓤 H) (Λ : Loops 𝓤 H) (p : Ptr) (a : Global) (m : Held)
      → ent 𝓤 (sep 𝓤 (Entry p a m) (fact 𝓤 (IsSome m))) (WpFn 𝓤 H C Λ code.function (vptr rb ro ∷ []) (Post p a m))
  at_each C Λ p a None = qed 𝓛 (raw (Entry p a None) ∷ raw (fact 𝓤 (IsSome {T = X E} None)) ∷ []) ∵
      move ! (1 ∷ []) $ heard ! (IsSome {T = X E} None) (λ some. absurd (true≢false (sym some)))
  at_each C Λ p a (Some x) = walk p a x C Λ

meets : {M : Type 1} {𝓤 : Ura M} (𝓛 : Logic 𝓤) (at_mem : Memory → SProp 𝓤) (run : Routine → Fun 𝓤) (𝓣 : Tables 𝓤 𝓛.H)
    → Meets 𝓛 F.signature (WpFn 𝓤 𝓛.H 𝓣.C 𝓣.Λ code.function) (F.spec 𝓛 at_mem run)
meets {𝓤 = 𝓤} 𝓛 at_mem run 𝓣 =
    walk_Meets 𝓛 F.ended stayed (
      Goes-spent_ref 𝓛 1 (0
          ∷ []) tt (plain (λ _. Whole)),
      tt,
    ) (F.clauses 𝓛 at_mem run) (WpFn 𝓤 𝓛.H 𝓣.C 𝓣.Λ code.function)
    (WpFn-mono 𝓤 𝓛.H 𝓛.laws 𝓣 code.function)
    (walked 𝓛 F.ended stayed (F.clauses 𝓛 at_mem run) (WpFn 𝓤 𝓛.H 𝓣.C 𝓣.Λ code.function) (λ κs. (mut_vals, tt))
    (λ κs. (mut_Tells (named 0) κs.0 Whole, tt))
    (λ κs qs bounds a g are. at_each 𝓛 at_mem run κs.0 qs.0 a.0.ref_ptr.0 a.0.ref_ptr.1 a.0.ghost_name 𝓣.C 𝓣.Λ
    a.0.now.ptr a.0.now.alloc a.0.now.value))

pub lend_spec : {M : Type 1} → stated.statement M
unfolding tables_of
lend_spec 𝓤 𝓛 𝓜 𝓡 wired =
    let 𝓣 : Tables 𝓤 𝓛.H = tables_of 𝓤 𝓛.H 𝓜 (tables 𝓤 𝓛.H 𝓜 𝓡 𝓡.env) in
    entered 𝓤 𝓛.H (triple_of 𝓛 F.signature (F.spec 𝓛 𝓜.mem 𝓡.returns)) 𝓣.C 𝓣.Λ #self code.function (code.unfolded 𝓤
    𝓛.H 𝓜 𝓡 wired) (meets 𝓛 𝓜.mem 𝓡.returns 𝓣)
