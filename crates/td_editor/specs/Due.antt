-- Which messages a site takes: those that another site can have sent to it, as far as the site can tell.
use Rattle.std.specs.Prelude.{◌≡◌, ◌≤◌, true, [], ◌∷◌}
use Rattle.td_op.specs.declared.input.Input.{Input}
use Rattle.td_op.specs.declared.input.Input.TheVariants.{Take}
use Rattle.td_op.specs.declared.message.Message.{Message}
use Rattle.td_op.specs.Message.{is_for}
use Rattle.td_machine.specs.History.{History, known_of}
use Rattle.td_machine.specs.Machine.{Machine, made}
use Rattle.td_machine.specs.Step.{step}

-- it is for the site, which has made each own operation that it names
pub record IsDue (m : Machine) (message : Message) : Type 0 where
  pub is_for : is_for m.site message ≡ true
  pub own_made : known_of m.site message ≤ made m

-- where the input is a message, it is due
abbrev pub MayTake : Machine → Input → Type 0
MayTake m input = (message : Message) → input ≡ Take message → IsDue m message

-- each message that the history takes is due where it is taken, from this machine on
abbrev pub TakesDue : Machine → History → Type 0
TakesDue m [] = Unit {0}
TakesDue m (e ∷ entries) = MayTake m e.input × TakesDue (step m e.input).machine entries
