use Rattle.td_clock.proofs.VectorLemmas.{same_vector_true, same_vector_refl}
use Rattle.td_clock.proofs.laws.vectors_are_compared_by_their_numbers.Goals as goal

pub returns : goal.returns
returns c = λ v w. (same_vector_true v w, λ e. rw e (same_vector_refl w))
