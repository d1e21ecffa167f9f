use Rattle.nr_model.proofs.Following.{restored_closed, restored_named, stays_closed, pairs_restored, pairs_grew_less, pairs_grew_alike}
use Rattle.nr_model.proofs.law.follow.restored_calls_keep_pairs.Goals as goal

pub returns-clause-kept : goal.returns-clause-kept
returns-clause-kept c = λ p service pairs s t s' t' d e a b w l r. pairs_restored p service pairs s t s' t' d e a b w l r

pub returns-clause-grown_less : goal.returns-clause-grown_less
returns-clause-grown_less c = λ p service pairs s t s' t' d e a b w l r closed. pairs_grew_less p service pairs s t s' t' d e a b w l r closed

pub returns-clause-grown : goal.returns-clause-grown
returns-clause-grown c = λ p service pairs s t s' t' d e a b w l r left right. pairs_grew_alike p service pairs s t s' t' d e a b w l r left right

pub returns-clause-closed : goal.returns-clause-closed
returns-clause-closed c = λ p service t t' e b i closed held.
    (restored_closed p service t t' e b i, restored_named p service t t' e b i closed held)

pub returns-clause-stay_closed : goal.returns-clause-stay_closed
returns-clause-stay_closed c = λ p service k s t calls r rs closed held. stays_closed p service k s t calls r rs closed held
