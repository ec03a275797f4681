-- Two answers together, as the code tells them apart by what is equal.
use mathlib.Core.Path.{◌≡◌, refl, sym, ap}
use mathlib.Core.Bool.{Bool, true, false, cond, false≢true}
use Rattle.step.specs.contracts.SteppedPartialEq.TheImpl.{ghosts}
use Rattle.step.specs.declared.Stepped.{Stepped}
use Rattle.step.specs.declared.Stepped.TheVariants.{One, None, Several}
use Rattle.step.specs.inner.Looking.{merged}

-- whether they are equal, as derived
abbrev pub equal : Stepped → Stepped → Bool
equal a b = ghosts.eq a b

pub first_none : (a b : Stepped) → equal a None ≡ true → b ≡ merged a b
unfolding merged
first_none None b e = refl
first_none Several b e = absurd (false≢true e)
first_none (One E O k L) b e = absurd (false≢true e)

pub second_none : (a b : Stepped) → equal b None ≡ true → a ≡ merged a b
unfolding merged
second_none None None e = refl
second_none Several None e = refl
second_none (One E O k L) None e = refl
second_none a Several e = absurd (false≢true e)
second_none a (One E O k L) e = absurd (false≢true e)

pub both_equal : (a b : Stepped) → equal a b ≡ true → a ≡ merged a b
unfolding merged
both_equal None None e = refl
both_equal None Several e = absurd (false≢true e)
both_equal None (One F P m N) e = absurd (false≢true e)
both_equal Several b e = refl
both_equal (One E O k L) None e = refl
both_equal (One E O k L) Several e = absurd (false≢true e)
both_equal (One E O k L) (One F P m N) e = sym (ap (λ (z : Bool). cond z (One E O k L) Several) e)

pub two_differ : (a b : Stepped) → equal a None ≡ false → equal b None ≡ false → equal a b ≡ false → Several ≡ merged a b
unfolding merged
two_differ None b e f g = absurd (false≢true (sym e))
two_differ Several b e f g = refl
two_differ (One E O k L) None e f g = absurd (false≢true (sym f))
two_differ (One E O k L) Several e f g = refl
two_differ (One E O k L) (One F P m N) e f g = sym (ap (λ (z : Bool). cond z (One E O k L) Several) g)
