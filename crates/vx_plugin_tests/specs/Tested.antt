-- A value where a test holds, and none elsewhere.
use Rattle.std.proofs.Common.{◌≡◌, Bool, true, false, Option, Some, None, if◌then◌else◌, refl}

-- Where there is a value, the test holds, and it is the value of that case.
pub test_holds : {A : Type 0} (test : Bool) (o : Option A) (a : A) → (if test then o else None) ≡ Some a → (test ≡ true) × (o ≡ Some a)
test_holds true o a e = (refl, e)
test_holds false o a e = absurd (cc)
