-- The values of a form that pass a test.
use Rattle.std.specs.Prelude.{Bool, IsTrue, if◌then◌else◌}
use Rattle.vx_forms.specs.Form.{whole, wrong, and_then, Form}

-- The values of a form that pass a test; another one is wrong.
abbrev pub tested : {A : Type 0} → (A → Bool) → Form A → Form A
tested test f = record {
  Shows = λ x bytes. IsTrue (test x) × f.Shows x bytes;
  Fits = λ x. IsTrue (test x) × f.Fits x;
  write = f.write;
  read = λ bytes. and_then (f.read bytes) (λ x rest. if test x then whole x rest else wrong);
}
