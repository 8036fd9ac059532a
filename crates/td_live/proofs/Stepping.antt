-- What one step of a book's lines does in a world, and that there is less to do then.
use Rattle.std.proofs.Common.{◌≡◌, ◌<◌, ◌≤◌, ◌+◌, ◌++◌, ℕ, suc, List, [], ◌∷◌, length, take}
use Rattle.std.proofs.Common.{drop, sum_by, refl, sym, ap, ◌∙◌, subst, arith}
use Rattle.td_op.specs.declared.input.Input.TheVariants.{Local}
use Rattle.td_op.specs.declared.reply.Reply.{Reply}
use Rattle.td_op.specs.declared.reply.Reply.TheVariants.{Made}
use Rattle.td_op.specs.declared.request.Request.{Request}
use Rattle.td_doc.specs.Document.{text_of}
use Rattle.td_machine.specs.Machine.{Machine, start}
use Rattle.td_machine.specs.History.{History, history, machine, after}
use Rattle.std.proofs.Math.Seq.{take-length}
use Rattle.td_script.specs.declared.live.editor_line.EditorLine.{EditorLine}
use Rattle.td_script.specs.declared.live.editor_line.EditorLine.TheVariants.{Look as LookLine}
use Rattle.td_script.specs.LiveScript.{calls}
use Rattle.td_world.specs.World.{WorldValue, IsWorld, size, replica, family_of, moved, reply_to}
use Rattle.td_world.specs.Calls.{ask}
use Rattle.td_world.proofs.Moves.{size_family}
use Rattle.td_live.specs.declared.ask.Ask.{Ask}
use Rattle.td_live.specs.declared.next.Next.TheVariants.{Ask as AskNext, Look as LookNext}
use Rattle.td_live.specs.Agenda.{IsNextToDo}
use Rattle.td_live.specs.Following.{Rest, Act, Leads, Stays, Calls, Looks, Begins, replied, calls_left}
use Rattle.td_live.specs.Books.{BookValue, GoesFurther, with_call, with_look}
use Rattle.td_live.specs.Finishing.{steps_left}
use Rattle.td_live.proofs.Furthering.{further_begun, further_call, further_look}
use Rattle.td_live.proofs.Settling.{history_of, here_moved, there_moved, grown_moved}

-- ---- a call

called_home : (w : WorldValue) (b : BookValue) (request : Request) (reply : Reply) (entry : ℕ) → 0 < b.home
    → b.home ≤ size w → IsNextToDo (AskNext request) b.rest → reply ≡ reply_to (ask b.home request) w
    → entry ≡ length (replica (moved (ask b.home request) w) b.home).entries
    → GoesFurther (family_of w) b (family_of (moved (ask b.home request) w)) (with_call entry reply b)
called_home w b request reply entry some within next got at =
    further_call (family_of w) (family_of (moved (ask b.home request) w)) b request reply entry some
    (subst (λ (n : ℕ). b.home ≤ n) (sym (size_family w)) within) (grown_moved w (ask b.home request) some within)
    (here_moved w (ask b.home request) some within
    ∙ ap (λ (r : Reply). history (family_of w) b.home ++ record { input = Local request; reply = r } ∷ []) (sym got))
    (λ site up low other. there_moved w (ask b.home request) some within site up other)
    (at ∙ sym (ap (λ (h : History). length h) (history_of (moved (ask b.home request) w) b.home))) next

pub called : (w new : WorldValue) (b c : BookValue) (home : ℕ) (request : Request) (reply : Reply) (entry : ℕ)
    → home ≡ b.home → 1 ≤ home → b.home ≤ size w → IsNextToDo (AskNext request) b.rest
    → new ≡ moved (ask home request) w → reply ≡ reply_to (ask home request) w
    → entry ≡ length (replica new home).entries → c ≡ with_call entry reply b
    → GoesFurther (family_of w) b (family_of new) c
called w new b c home request reply entry same some within next is got at put =
    let there : new ≡ moved (ask b.home request) w = is ∙ ap (λ (h : ℕ). moved (ask h request) w) same in
    subst (λ (x : WorldValue × BookValue). GoesFurther (family_of w) b (family_of x.0) x.1)
    (λ i. (sym there i, sym put i))
    (called_home w b request reply entry (subst (λ (h : ℕ). 1 ≤ h) same some) within next
    (got ∙ ap (λ (h : ℕ). reply_to (ask h request) w) same)
    (at ∙ ap (λ (x : WorldValue × ℕ). length (replica x.0 x.1).entries) (λ i. (there i, same i))))

-- ---- a look

looked_home : (w : WorldValue) (i : IsWorld w) (b : BookValue) (upto : ℕ) (text : List ℕ) → 0 < b.home → b.home ≤ size w
    → IsNextToDo LookNext b.rest → text ≡ text_of (replica w b.home).machine.doc
    → upto ≡ length (replica w b.home).entries → GoesFurther (family_of w) b (family_of w) (with_look upto text b)
looked_home w i b upto text some within next shows at =
    let long : upto ≡ length (history (family_of w) b.home) =
    at ∙ sym (ap (λ (h : History). length h) (history_of w b.home)) in
    let whole : take upto (history (family_of w) b.home) ≡ history (family_of w) b.home =
    ap (λ (n : ℕ). take n (history (family_of w) b.home)) long ∙ take-length (history (family_of w) b.home) in
    further_look (family_of w) b upto text some long
    (shows ∙ ap (λ (m : Machine). text_of m.doc) (i.machines b.home some within)
    ∙ ap (λ (h : History). text_of (after (start b.home (length (family_of w))) h).doc) (sym whole))
    next

pub looked : (w : WorldValue) (b c : BookValue) (home upto : ℕ) (text : List ℕ) → IsWorld w → home ≡ b.home → 1 ≤ home
    → b.home ≤ size w → IsNextToDo LookNext b.rest → text ≡ text_of (replica w home).machine.doc
    → upto ≡ length (replica w home).entries → c ≡ with_look upto text b
    → GoesFurther (family_of w) b (family_of w) c
looked w b c home upto text i same some within next shows at put =
    subst (λ (d : BookValue). GoesFurther (family_of w) b (family_of w) d) (sym put)
    (looked_home w i b upto text (subst (λ (h : ℕ). 1 ≤ h) same some) within next
    (shows ∙ ap (λ (h : ℕ). text_of (replica w h).machine.doc) same)
    (at ∙ ap (λ (h : ℕ). length (replica w h).entries) same))

-- ---- another line is begun

pub begun : (w : WorldValue) (b c : BookValue) → c ≡ record b { rest = c.rest }
    → ((first : Rest) (acts : List Act) → Leads first acts b.rest → Leads first acts c.rest)
    → GoesFurther (family_of w) b (family_of w) c
begun w b c is leads =
    subst (λ (d : BookValue). GoesFurther (family_of w) b (family_of w) d) (sym is)
    (further_begun (family_of w) b c.rest leads)

-- ---- there is less to do

drop_one : {X : Type 0} (xs : List X) → 0 < length xs → suc (length (drop 1 xs)) ≡ length xs
drop_one [] some = absurd (omega (arith, some))
drop_one (x ∷ xs) some = refl

fewer_replied : (reply : Reply) (r : Rest) → 0 < length r.asks
    → steps_left (replied reply r (drop 1 r.asks)) < steps_left r
fewer_replied (Made dot) r some = let one = drop_one r.asks some in omega (arith, one)
fewer_replied reply r some = omega (arith, some)

pub fewer_call : (entry : ℕ) (reply : Reply) (b c : BookValue) → 0 < length b.rest.asks → c ≡ with_call entry reply b
    → steps_left c.rest < steps_left b.rest
fewer_call entry reply b c some put =
    subst (λ (d : BookValue). steps_left d.rest < steps_left b.rest) (sym put) (fewer_replied reply b.rest some)

fewer_lines : (n : ℕ) (lines left : List EditorLine) → lines ≡ LookLine ∷ left
    → n + sum_by calls (drop 1 lines) + length (drop 1 lines) < n + sum_by calls lines + length lines
fewer_lines n lines left e =
    subst (λ (l : List EditorLine). n + sum_by calls (drop 1 l) + length (drop 1 l) < n + sum_by calls l + length l)
    (sym e)
    (omega arith)

pub fewer_look : (upto : ℕ) (text : List ℕ) (b c : BookValue) → IsNextToDo LookNext b.rest → c ≡ with_look upto text b
    → steps_left c.rest < steps_left b.rest
fewer_look upto text b c next put =
    subst (λ (d : BookValue). steps_left d.rest < steps_left b.rest) (sym put)
    (fewer_lines (length b.rest.asks) b.rest.lines next.1.0 next.1.1)

replied_lines : (reply : Reply) (r : Rest) (asks : List Ask) → (replied reply r asks).lines ≡ r.lines
replied_lines (Made dot) r asks = refl
replied_lines reply r asks = refl

lines_fall : {r s : Rest} {acts : List Act} → Leads r acts s → length s.lines ≤ length r.lines
lines_fall Stays = omega arith
lines_fall (Calls {r = r} {s = s} {asks = asks} {reply = reply} e h) =
    let f : length s.lines ≤ length (replied reply r asks).lines = lines_fall h in
    subst (λ (l : List EditorLine). length s.lines ≤ length l) (replied_lines reply r asks) f
lines_fall (Looks {r = r} {s = s} {lines = lines} e f h) =
    let g : length s.lines ≤ length lines = lines_fall h in
    let n : length r.lines ≡ suc (length lines) = ap (λ (l : List EditorLine). length l) f in
    omega (arith, g, n)
lines_fall (Begins {r = r} {s = s} {lines = lines} e f other h) =
    let g : length s.lines ≤ length lines = lines_fall h in
    let n : length r.lines ≡ suc (length lines) = ap (λ (l : List EditorLine). length l) f in
    omega (arith, g, n)

pub no_more_begun : (r s : Rest) → ((first : Rest) (acts : List Act) → Leads first acts r → Leads first acts s)
    → calls_left s ≤ calls_left r → steps_left s ≤ steps_left r
no_more_begun r s leads fewer =
    let lines : length s.lines ≤ length r.lines = lines_fall (leads r [] Stays) in omega (arith, fewer, lines)

-- a call is there where it is next
pub some_ask : (request : Request) (r : Rest) → IsNextToDo (AskNext request) r → 0 < length r.asks
some_ask request r next =
    let n : length r.asks ≡ suc (length next.1.0) = ap (λ (l : List Ask). length l) next.1.1 in omega (arith, n)
