-- The validity of rows that are all null is sound, and says so of each row.
use Rattle.std.proofs.Common.{ℕ, ◌≡◌, ◌+◌, ◌/◌, ◌%◌, ◌^◌, ◌<◌, false, Some, None, refl, sym, ap, ◌∙◌, subst, arith, length, replicate, zero-add}
use Rattle.std.specs.Prelude.{Result, Ok, Err, IfOk, IsOkUnless}
use Rattle.std.proofs.Math.Nat.{zero-div}
use Rattle.std.proofs.lemmas.List.{get_or-replicate, length-replicate}
use Rattle.vx_buffer.specs.Buffer.{Buffer}
use Rattle.vx_types.specs.declared.nullability.Nullability.TheVariants.{NonNullable}
use Rattle.vx_scalars.proofs.LawsStats.{none_fit}
use Rattle.vx_array_tree.specs.Encoding as E
use Rattle.vx_array_tree.specs.Encodings.Bools.{bit_at}
use Rattle.vx_types.specs.Value.{flag_in}
use Rattle.vx_array_tree.specs.Sound.{IsSound}
use Rattle.vx_array_tree.specs.Tree.{Tree, row_at}
use Rattle.vx_arrays.specs.Bools.{bool_tree}
use Rattle.vx_arrays.specs.Refused.{IsOkOrMemory}
use Rattle.vx_arrays.specs.Validity.{all_invalid}
use Rattle.vx_arrays.proofs.Controlled.{bare_controlled}
use Rattle.vx_rows.specs.declared.error.ArrayError.{ArrayError}
use Rattle.vx_rows.specs.declared.error.ArrayError.TheVariants.{OutOfMemory, BadShape, BadContent, ForeignControl, ValueTooLarge, BadCast}

no_bit : (k i : ℕ) → i / 8 < k → bit_at (replicate k 0) i ≡ false
no_bit k i h = rw (get_or-replicate {A = ℕ} k (i / 8) 0 0 h, zero-div (2 ^ (i % 8))) refl

-- Each row is said not to be there.
pub none_there : (n i : ℕ) → i < n → flag_in (row_at (all_invalid n) i) ≡ Some false
none_there n i h =
    let bit : bit_at (replicate ((n + 7) / 8) 0) (0 + i) ≡ false = rw (zero-add i) (no_bit ((n + 7) / 8) i (omega arith)) in
    ap (λ b. Some b) bit

-- There is a bit for each row, and no row may be null.
pub all_invalid_sound : (n : ℕ) → IsSound (all_invalid n)
all_invalid_sound n = (
  record {
    fair = omega arith;
    planned = refl;
    allows = λ e. absurd (omega (arith, e));
    takes = tt;
    holds = let l : length (replicate {A = ℕ} ((n + 7) / 8) 0) ≡ (n + 7) / 8 = length-replicate {A = ℕ} ((n + 7) / 8) 0 in omega arith;
    controlled = bare_controlled E.bool _ tt;
    content = tt;
    stats = none_fit _;
  },
  tt,
)

-- A buffer of such bits is the one of that validity.
buffer_is : (b : Buffer) (n : ℕ) → b.bytes ≡ replicate ((n + 7) / 8) 0 → b.exponent ≡ 0 → b ≡ record { bytes = replicate ((n + 7) / 8) 0; exponent = 0 }
buffer_is b n p q = λ i. record { bytes = p i; exponent = q i }

tree_is : (b : Buffer) (n : ℕ) → b.bytes ≡ replicate ((n + 7) / 8) 0 → b.exponent ≡ 0 → bool_tree b 0 n NonNullable None ≡ all_invalid n
tree_is b n p q = ap (λ (x : Buffer). bool_tree x 0 n NonNullable None) (buffer_is b n p q)

-- So what is made of it is that validity, which says so of each row, and allocation failure is the one refusal.
pub is_all_invalid : (b : Buffer) (n : ℕ) (r : Result Tree ArrayError) → b.bytes ≡ replicate ((n + 7) / 8) 0 → b.exponent ≡ 0 → IfOk r (λ t. t ≡ bool_tree b 0 n NonNullable None) → IfOk r (λ t. t ≡ all_invalid n)
is_all_invalid b n (Ok t) p q e = e ∙ tree_is b n p q
is_all_invalid b n (Err error) p q e = tt

pub says_none : (b : Buffer) (n : ℕ) (r : Result Tree ArrayError) → b.bytes ≡ replicate ((n + 7) / 8) 0 → b.exponent ≡ 0 → IfOk r (λ t. t ≡ bool_tree b 0 n NonNullable None)
    → IfOk r (λ t. (i : ℕ) → i < n → flag_in (row_at t i) ≡ Some false)
says_none b n (Ok t) p q e = λ i h. ap (λ (u : Tree). flag_in (row_at u i)) (e ∙ tree_is b n p q) ∙ none_there n i h
says_none b n (Err error) p q e = tt

only_memory : (r : Result Tree ArrayError) → IsOkOrMemory r → IsOkUnless r OutOfMemory
only_memory (Ok t) h = tt
only_memory (Err OutOfMemory) h = refl
only_memory (Err BadShape) h = absurd h
only_memory (Err BadContent) h = absurd h
only_memory (Err ForeignControl) h = absurd h
only_memory (Err ValueTooLarge) h = absurd h
only_memory (Err BadCast) h = absurd h

pub wants_memory : (b : Buffer) (n : ℕ) (r : Result Tree ArrayError) → b.bytes ≡ replicate ((n + 7) / 8) 0 → b.exponent ≡ 0 → (IsSound (bool_tree b 0 n NonNullable None) → IsOkOrMemory r) → IsOkUnless r OutOfMemory
wants_memory b n r p q complete = only_memory r (complete (subst (λ (t : Tree). IsSound t) (sym (tree_is b n p q)) (all_invalid_sound n)))

-- What the making of that validity rests on.
pub ruleset all_invalid_steps = (is_all_invalid, says_none, wants_memory)
