-- Equality as a test, for the values of a type that has a code.
use Rattle.std.specs.Prelude.{◌==◌, Bool, true, false, ◌&&◌}
use Rattle.std.specs.Coded.{Coded}
use base.Stored.{Gv, gnil, gnum, gcons}

-- Two stored values are equal exactly where they have the same form and the same numbers.
abbrev pub stored_same : Gv → Gv → Bool
stored_same gnil gnil = true
stored_same gnil (gnum n) = false
stored_same gnil (gcons a b) = false
stored_same (gnum m) gnil = false
stored_same (gnum m) (gnum n) = m == n
stored_same (gnum m) (gcons a b) = false
stored_same (gcons a b) gnil = false
stored_same (gcons a b) (gnum n) = false
stored_same (gcons a b) (gcons c d) = stored_same a c && stored_same b d

-- Two values are equal exactly where their stored forms are.
unfoldable pub same : {A : Type 0} → Coded A → A → A → Bool
same c x y = stored_same (c.code x) (c.code y)
