-- What follows from a result.
use Rattle.std.specs.Prelude.{Result, Ok, Err, OnOk}

-- What always holds also holds of an Ok result.
pub ok_of : {T E : Type 0} (r : Result T E) (P : Type 0) → P → OnOk r P
ok_of (Ok x) P h = h
ok_of (Err e) P h = tt
