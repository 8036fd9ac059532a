-- What a history takes from other sites.
use Rattle.std.specs.Prelude.{◌≡◌, ◌≢◌, ◌<◌, ◌≤◌, ℕ, List, [], ◌∷◌, ◌++◌, if◌then◌else◌, ◌==◌}
use Rattle.td_op.specs.declared.input.Input.{Input}
use Rattle.td_op.specs.declared.input.Input.TheVariants.{Local, Take, Next}
use Rattle.td_op.specs.declared.message.Message.{Message}
use Rattle.td_machine.specs.Machine.{Machine, made}
use Rattle.td_machine.specs.Step.{step}
use Rattle.td_machine.specs.History.{History, known_of}
use Rattle.td_op.specs.Message.{sender}

-- what one input takes from this site
abbrev pub taken_in : ℕ → Input → List Message
taken_in site (Local request) = []
taken_in site (Take message) = if sender message == site then message ∷ [] else []
taken_in site Next = []

-- what the history takes from that site, in order
abbrev pub takes_from : ℕ → History → List Message
takes_from site [] = []
takes_from site (e ∷ entries) = taken_in site e.input ++ takes_from site entries

-- the message may be taken at a site of so many, when its machine is as given, as far as the site can tell. (That its
-- sender did send it no site can tell by itself.)
pub record IsWelcome (site size : ℕ) (m : Machine) (message : Message) : Type 0 where
  -- another of the sites sent it
  pub some : 0 < sender message
  pub within : sender message ≤ size
  pub another : sender message ≢ site
  -- the site has made each own operation that it names
  pub own_made : known_of site message ≤ made m

-- each message that the history takes is so at the machine that takes it, from this machine on
abbrev pub TakesWelcome : ℕ → ℕ → Machine → History → Type 0
TakesWelcome site size m [] = Unit {0}
TakesWelcome site size m (e ∷ entries) =
    ((message : Message) → e.input ≡ Take message → IsWelcome site size m message)
    × TakesWelcome site size (step m e.input).machine entries
