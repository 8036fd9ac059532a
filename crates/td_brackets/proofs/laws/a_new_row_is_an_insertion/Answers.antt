use Rattle.td_brackets.proofs.Kept.{put_rows_are, put_brackets}
use Rattle.td_brackets.proofs.laws.a_new_row_is_an_insertion.Goals as goal

pub returns : goal.returns
returns c = λ table next tokens b new id atom agree is unknown front back parts stack slot p after there rooted. (
  put_rows_are table next tokens b new id atom agree is unknown front back parts stack slot p after there,
  put_brackets table next tokens b new id atom agree is unknown front back parts stack slot p after there rooted,
)
