-- What an editor does that follows its lines, one thing after the other.
use Rattle.std.proofs.Common.{◌≡◌, ◌++◌, ◌∷◌, [], List, subst}
use Rattle.std.proofs.lemmas.List.{append-nil}
use Rattle.td_op.specs.declared.reply.Reply.{Reply}
use Rattle.td_script.specs.declared.live.editor_line.EditorLine.{EditorLine}
use Rattle.td_script.specs.declared.live.editor_line.EditorLine.TheVariants.{Look}
use Rattle.td_live.specs.declared.ask.Ask.{Ask}
use Rattle.td_live.specs.Asking.{request_of, asks_of}
use Rattle.td_live.specs.Following.{Rest, Act, Called, Looked, Leads, Stays, Calls, Looks, Begins, replied}

-- one way behind another
pub leads_then : {a b c : Rest} {acts more : List Act} → Leads a acts b → Leads b more c → Leads a (acts ++ more) c
leads_then Stays behind = behind
leads_then (Calls asks way) behind = Calls asks (leads_then way behind)
leads_then (Looks asks lines way) behind = Looks asks lines (leads_then way behind)
leads_then (Begins asks lines no_look way) behind = Begins asks lines no_look (leads_then way behind)

-- a call done at the end
pub leads_call : {a b : Rest} {acts : List Act} {ask : Ask} {asks : List Ask} (reply : Reply) → Leads a acts b
    → b.asks ≡ ask ∷ asks
    → Leads a (acts ++ Called (request_of ask b.made) reply ∷ []) (replied reply b asks)
leads_call reply way asks = leads_then way (Calls asks Stays)

-- a look done at the end
pub leads_look : {a b : Rest} {acts : List Act} {lines : List EditorLine} → Leads a acts b → b.asks ≡ [] → b.lines
    ≡ Look ∷ lines
    → Leads a (acts ++ Looked ∷ []) (record b { lines = lines })
leads_look way asks lines = leads_then way (Looks asks lines Stays)

-- a line begun at the end
pub leads_begun : {a b : Rest} {acts : List Act} {line : EditorLine} {lines : List EditorLine} → Leads a acts b
    → b.asks ≡ []
    → b.lines ≡ line ∷ lines → (line ≡ Look → ⊥) → Leads a acts (record b { asks = asks_of line; lines = lines })
leads_begun {a = a} {b = b} {acts = acts} {line = line} {lines = lines} way asks lines_are no_look =
    subst (λ (done : List Act). Leads a done (record b { asks = asks_of line; lines = lines })) (append-nil acts)
    (leads_then way (Begins asks lines_are no_look Stays))
