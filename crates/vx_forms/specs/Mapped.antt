-- The values of a form under another type.
use Rattle.std.specs.Prelude.{◌≡◌}
use Rattle.vx_forms.specs.Form.{answer_map, Form}

-- Two functions are inverse to each other.
pub record AreInverse {A B : Type 0} (view : A → B) (back : B → A) : Type 0 where
  pub back_view : (x : A) → back (view x) ≡ x
  pub view_back : (y : B) → view (back y) ≡ y

-- A form of one type as a form of another, by two functions that are inverse to each other.
abbrev pub mapped : {A B : Type 0} → (A → B) → (B → A) → Form A → Form B
mapped view back f = record {
  Shows = λ y bytes. f.Shows (back y) bytes;
  Fits = λ y. f.Fits (back y);
  write = λ y. f.write (back y);
  read = λ bytes. answer_map view (f.read bytes);
}
