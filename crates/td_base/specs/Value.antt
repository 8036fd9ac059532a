-- What contracts see of a site, of a dot and of an identity: numbers and records of numbers, and which of them are in
-- range.
use Rattle.std.specs.Prelude.{◌≤◌, ℕ}
use Rattle.td_base.specs.declared.site.TheConstants.{MAX_SITE}
use Rattle.td_base.specs.declared.dot.TheConstants.{MAX_SEQ}
use Rattle.td_base.specs.declared.atom_id.TheConstants.{MAX_OFFSET}

-- a site's operation: the site, and its number there from 1
pub record DotValue : Type 0 where
  pub site : ℕ
  pub seq : ℕ

-- an atom: the dot of its insert, and its place in the insert's run from 0
pub record AtomIdValue : Type 0 where
  pub dot : DotValue
  pub offset : ℕ

pub record IsSite (site : ℕ) : Type 0 where
  pub least : 1 ≤ site
  pub greatest : site ≤ MAX_SITE

pub record IsDot (d : DotValue) : Type 0 where
  pub site : IsSite d.site
  pub least : 1 ≤ d.seq
  pub greatest : d.seq ≤ MAX_SEQ

pub record IsAtomId (x : AtomIdValue) : Type 0 where
  pub dot : IsDot x.dot
  pub greatest : x.offset ≤ MAX_OFFSET
