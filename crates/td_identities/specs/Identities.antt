-- Which number an identity has.
use Rattle.std.specs.Prelude.{◌<◌, ℕ, List, [], ◌∷◌, length, get_or, vec_len, vec_capacity, Option}
use Rattle.td_base.specs.Value.{DotValue, AtomIdValue}
use Rattle.td_identities.specs.declared.numbers.Stray.{Stray}
use Rattle.td_identities.specs.declared.identities.Identities.{Identities}
use Rattle.td_identities.specs.Numbers.{NumbersValue, no_numbers, nth, with_run}

-- the numbers of an insert, by its site and its seq
abbrev pub insert_of : List (List NumbersValue) → DotValue → NumbersValue
insert_of sites d = get_or (get_or sites d.site []) d.seq no_numbers

-- the number of x among strays, of which the later ones count; the number given where it is none of them
abbrev pub with_strays : List Stray → AtomIdValue → Option ℕ → Option ℕ
with_strays [] x number = number
with_strays (s ∷ strays) x number = with_strays strays x (with_run s.id s.numbers x number)

-- the number of an identity
unfoldable pub number_of : Identities → AtomIdValue → Option ℕ
number_of i x = with_strays i.strays.items x (nth (insert_of i.sites.items x.dot) x.offset)

-- there is room for the numbers of an insert
pub record HasRoom (d : DotValue) (i : Identities) : Type 0 where
  pub site : d.site < length i.sites.items
  pub seq : d.seq < length (get_or i.sites.items d.site [])
  pub stray : vec_len i.strays < vec_capacity i.strays
