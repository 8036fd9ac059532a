-- How the kinds of faults are printed.
use Rattle.std.specs.Prelude.{ℕ, List, codes}
use Rattle.td_script.specs.declared.kind.Kind.{Kind}
use Rattle.td_script.specs.declared.kind.Kind.TheVariants.{Size, Long, Bytes, Word, Sites, End, Number, Site}
use Rattle.td_script.specs.declared.kind.Kind.TheVariants.{Editor, Turns, Loss, Calls, Dot, Quote, Atom}

abbrev pub kind_name : Kind → List ℕ
kind_name Size = codes "size"
kind_name Long = codes "long"
kind_name Bytes = codes "bytes"
kind_name Word = codes "word"
kind_name Sites = codes "sites"
kind_name End = codes "end"
kind_name Number = codes "number"
kind_name Site = codes "site"
kind_name Editor = codes "editor"
kind_name Turns = codes "turns"
kind_name Loss = codes "loss"
kind_name Calls = codes "calls"
kind_name Dot = codes "dot"
kind_name Quote = codes "quote"
kind_name Atom = codes "atom"
