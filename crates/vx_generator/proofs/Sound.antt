-- The table is sound.
use Rattle.std.proofs.Common.{ℕ, zero, suc, ◌≡◌, ◌<◌, ◌≤◌, ◌*◌, ◌^◌, List, refl, arith, true, length, codes, slice_index, drop, rules, tests}
use Rattle.std.specs.Int.{w32, from_le_bytes}
use Rattle.std.specs.Str.{is_utf8, chars}
use Rattle.std.proofs.Common.{take}
use lib.Utf8.{encode}
use Rattle.vx_scalars.proofs.LawsStats.{none_fit}
use Rattle.vx_array_tree.specs.Place.{is_len}
use Rattle.vx_array_tree.specs.Sound.{IsSound}
use Rattle.vx_array_tree.specs.Table.{Content}
use Rattle.vx_array_tree.specs.Tree.{rows_below}
use Rattle.vx_array_tree.proofs.LawsControls.{native_controlled, leaf, one_leaf}
use Rattle.vx_trees.specs.Rose.{label, below}
use Rattle.vx_generator.specs.Columns.{Columns}
use Rattle.vx_generator.specs.Made.{flags_tree, numbers_tree, codes_tree, texts_tree, names_tree, elements_tree, offsets_tree, lists_tree, table_tree, long_text, views}

-- The offset at an index, in four bytes.
abbrev pub offset_at : List ℕ → ℕ → ℕ
offset_at bytes i = from_le_bytes w32 (take 4 (drop (4 * i) bytes))

-- Columns fit n rows: each has the length that the rows need, codes are those of the five texts, and offsets never
-- decrease and end within the elements.
pub record Fit (c : Columns) (n : ℕ) : Type 0 where
  pub few : suc n < 2 ^ 64
  pub numbers : length c.numbers ≡ 8 * n
  pub validity : n ≤ 8 * length c.validity
  pub codes : length c.codes ≡ n
  pub named : (i : ℕ) → slice_index (drop (1 * i) c.codes) 0 < 5
  pub elements : length c.elements ≡ 2 * c.count
  pub offsets : length c.offsets ≡ 4 * suc n
  pub rising : (i : ℕ) → i < n → offset_at c.offsets i ≤ offset_at c.offsets (suc i)
  pub within : offset_at c.offsets n ≤ c.count

pub flags_sound : (c : Columns) (n : ℕ) → Fit c n → IsSound (flags_tree c.validity n)
flags_sound c n f = (record { fair = omega arith; planned = refl; allows = λ e. absurd (omega arith); takes = tt; holds = omega arith; controlled = native_controlled _ _ _ tt; content = tt; stats = none_fit _ }, tt)

pub numbers_sound : (c : Columns) (n : ℕ) → Fit c n → IsSound (numbers_tree c.numbers c.validity n)
numbers_sound c n f = (record { fair = tt; planned = refl; allows = λ e. refl; takes = tt; holds = record { length_is = f.numbers; aligned = omega arith }; controlled = native_controlled _ _ _ one_leaf; content = tt; stats = none_fit _ }, (flags_sound c n f, tt))

pub codes_sound : (c : Columns) (n : ℕ) → Fit c n → IsSound (codes_tree c.codes n)
codes_sound c n f = (record { fair = tt; planned = refl; allows = λ e. absurd (omega arith); takes = tt; holds = record { length_is = omega arith; aligned = omega arith }; controlled = native_controlled _ _ _ tt; content = tt; stats = none_fit _ }, tt)

texts_are : Content (label texts_tree).dtype 5 (label texts_tree).body (rows_below (below texts_tree))
unfolding long_text views is_utf8 chars encode
texts_are zero l t = (codes "ash", refl, refl)
texts_are (suc zero) l t = (codes "birch", refl, refl)
texts_are (suc (suc zero)) l t = (codes "cedar", refl, refl)
texts_are (suc (suc (suc zero))) l t = (codes "oak", refl, refl)
texts_are (suc (suc (suc (suc zero)))) l t = (long_text, refl, refl)
texts_are (suc (suc (suc (suc (suc i))))) l t = absurd (omega arith)

pub texts_sound : IsSound texts_tree
unfolding views long_text
texts_sound = (record { fair = tt; planned = refl; allows = λ e. absurd (omega arith); takes = tt; holds = record { length_is = refl; aligned = omega arith }; controlled = native_controlled _ _ _ tt; content = texts_are; stats = none_fit _ }, tt)

pub names_sound : (c : Columns) (n : ℕ) → Fit c n → IsSound (names_tree c.codes n)
names_sound c n f = (
  record {
    fair = refl;
    planned = refl;
    allows = λ e. absurd (cc);
    takes = tt;
    holds = tt;
    controlled = native_controlled _ _ _ (leaf, one_leaf);
    content = λ i l t. record { natural = refl; within = f.named i };
    stats = none_fit _;
  },
  (codes_sound c n f, (texts_sound, tt)),
)

pub elements_sound : (c : Columns) (n : ℕ) → Fit c n → IsSound (elements_tree c.elements c.count)
elements_sound c n f = (record { fair = tt; planned = refl; allows = λ e. absurd (omega arith); takes = tt; holds = record { length_is = f.elements; aligned = omega arith }; controlled = native_controlled _ _ _ tt; content = tt; stats = none_fit _ }, tt)

pub offsets_sound : (c : Columns) (n : ℕ) → Fit c n → IsSound (offsets_tree c.offsets n)
offsets_sound c n f = (record { fair = tt; planned = refl; allows = λ e. absurd (omega arith); takes = tt; holds = record { length_is = f.offsets; aligned = omega arith }; controlled = native_controlled _ _ _ tt; content = tt; stats = none_fit _ }, tt)

pub lists_sound : (c : Columns) (n : ℕ) → Fit c n → IsSound (lists_tree c.elements c.count c.offsets n)
lists_sound c n f =
    let e : is_len (suc n) ≡ true = search (tests, rules) in (
      record {
        fair = refl;
        planned = rw e refl;
        allows = λ q. absurd (omega arith);
        takes = tt;
        holds = tt;
        controlled = native_controlled _ _ _ (leaf, one_leaf);
        content = record { naturals = λ i l t. refl; rising = f.rising; within = f.within };
        stats = none_fit _;
      },
      (elements_sound c n f, (offsets_sound c n f, tt)),
    )

pub table_sound : (c : Columns) (n : ℕ) → Fit c n → IsSound (table_tree c n)
table_sound c n f = (
  record { fair = tt; planned = refl; allows = λ e. absurd (omega arith); takes = tt; holds = tt; controlled = native_controlled _ _ _ ((tt, one_leaf), ((tt, (leaf, one_leaf)), ((tt, (leaf, one_leaf)), tt))); content = tt; stats = none_fit _ },
  (numbers_sound c n f, (names_sound c n f, (lists_sound c n f, tt))),
)
