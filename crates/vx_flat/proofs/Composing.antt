-- Blocks that are composed, a part at a time.
use Rattle.std.proofs.Common.{◌≡◌, ℕ, zero, suc, ◌+◌, ◌-◌, ◌*◌, ◌<◌, ◌≤◌, List, [], ◌∷◌, ◌++◌, length, take, drop, get_or}
use Rattle.std.proofs.Common.{refl, sym, ap, ◌∙◌, arith, append_assoc}
use Rattle.std.proofs.Math.ListN.{set}
use Rattle.std.proofs.lemmas.List.{drop_more}
use Rattle.vx_flat.specs.declared.builder.piece.BlockField.{BlockField}
use Rattle.vx_flat.specs.declared.builder.piece.BlockField.TheVariants as entry
use Rattle.vx_flat.specs.declared.builder.piece.LinkKind.{LinkKind}
use Rattle.vx_flat.specs.declared.builder.slot.Slot.{Slot}
use Rattle.vx_flat.specs.Building.{entry_slots, element_slots}
use Rattle.vx_flat.specs.BuilderView.{begun, front}
use Rattle.vx_flat.specs.FieldTables.{align, zeros, le_bytes}
use Rattle.vx_flat.specs.CellForm.{end_after}
use Rattle.vx_flat.specs.Layout.{links_bytes}
use Rattle.vx_flat.specs.Linking.{cell_at, firsts, rest}

-- four bytes are set
pub set_four : (m : List ℕ) (p a b c d : ℕ) → p + 4 ≤ length m
    → set (set (set (set m p a) (p + 1) b) (p + 2) c) (p + 3) d ≡ take p m ++ (a ∷ b ∷ c ∷ d ∷ drop (p + 4) m)
set_four [] p a b c d h = absurd (omega (arith, h))
set_four (x ∷ m) (suc p) a b c d h =
    let e1 : suc p + 1 ≡ suc (p + 1) = omega arith in
    let e2 : suc p + 2 ≡ suc (p + 2) = omega arith in
    let e3 : suc p + 3 ≡ suc (p + 3) = omega arith in
    let e4 : suc p + 4 ≡ suc (p + 4) = omega arith in
    rw (e1, e2, e3, e4) (ap (λ m. x ∷ m) (set_four m p a b c d (omega (arith, h))))
set_four (x0 ∷ x1 ∷ x2 ∷ x3 ∷ m) zero a b c d h = refl
set_four _ zero a b c d h = absurd (omega (arith, h))

-- the links of entries, one more
pub slots_link : (es : List BlockField) (n t i p : ℕ) (k : LinkKind) (out all : List Slot) → i < length es
    → get_or es i entry.Absent ≡ entry.Link k
    → out ++ entry_slots n t i p (drop i es) ≡ all
    → (out ++ record { block = n; index = i; kind = k; place = t + align 4 p } ∷ [])
    ++ entry_slots n t (i + 1) (end_after (cell_at (get_or es i entry.Absent) 0) p) (drop (i + 1) es) ≡ all
slots_link es n t i p k out all lt is h =
    let rest = drop (i + 1) es in
    append_assoc out (record { block = n; index = i; kind = k; place = t + align 4 p } ∷ [])
    (entry_slots n t (i + 1) (end_after (cell_at (get_or es i entry.Absent) 0) p) rest)
    ∙ (ap (λ x. out ++ (record { block = n; index = i; kind = k; place = t + align 4 p }
    ∷ entry_slots n t (i + 1) (end_after (cell_at x 0) p) rest)) is
    ∙ (ap (λ x. out ++ entry_slots n t i p (x ∷ rest)) (sym is)
    ∙ (ap (λ ds. out ++ entry_slots n t i p ds) (sym (drop_more es i entry.Absent lt)) ∙ h)))

-- An entry that is no link.
abbrev pub IsNoLink : BlockField → Type 0
IsNoLink (entry.Link k) = ⊥
IsNoLink e = Unit {0}

entry_alone : (x : BlockField) (rest : List BlockField) (n t i p : ℕ) → IsNoLink x
    → entry_slots n t (i + 1) (end_after (cell_at x 0) p) rest ≡ entry_slots n t i p (x ∷ rest)
entry_alone (entry.Link k) rest n t i p h = absurd h
entry_alone entry.Absent rest n t i p h = refl
entry_alone (entry.Number w v) rest n t i p h = refl
entry_alone entry.UnknownMember rest n t i p h = refl

pub slots_alone : (es : List BlockField) (n t i p : ℕ) (out all : List Slot) → i < length es
    → IsNoLink (get_or es i entry.Absent)
    → out ++ entry_slots n t i p (drop i es) ≡ all
    → out ++ entry_slots n t (i + 1) (end_after (cell_at (get_or es i entry.Absent) 0) p) (drop (i + 1) es) ≡ all
slots_alone es n t i p out all lt alone h =
    let x = get_or es i entry.Absent in
    let rest = drop (i + 1) es in
    ap (λ z. out ++ z) (entry_alone x rest n t i p alone)
    ∙ (ap (λ ds. out ++ entry_slots n t i p ds) (sym (drop_more es i entry.Absent lt)) ∙ h)

-- the links of a vector, one more
pub elements_next : (n : ℕ) (k : LinkKind) (p i count : ℕ) (out all : List Slot) → i < count
    → out ++ element_slots n k (p + 4 * i) i (count - i) ≡ all
    → (out ++ record { block = n; index = i; kind = k; place = p + 4 * i } ∷ [])
    ++ element_slots n k (p + 4 * (i + 1)) (i + 1) (count - (i + 1)) ≡ all
elements_next n k p i count out all lt h =
    let e : count - i ≡ suc (count - (i + 1)) = omega arith in
    let f : p + 4 * (i + 1) ≡ p + 4 * i + 4 = omega arith in
    append_assoc out (record { block = n; index = i; kind = k; place = p + 4 * i } ∷ [])
    (element_slots n k (p + 4 * (i + 1)) (i + 1) (count - (i + 1)))
    ∙ (ap (λ q. out ++ (record { block = n; index = i; kind = k; place = p + 4 * i }
    ∷ element_slots n k q (i + 1) (count - (i + 1)))) f
    ∙ (ap (λ m. out ++ element_slots n k (p + 4 * i) i m) (sym e) ∙ h))

-- links that are still to be set are zero bytes
pub links_zero : (k p : ℕ) → links_bytes [] p (firsts k []) ≡ zeros (4 * k)
links_zero zero p = refl
links_zero (suc k) p =
    let e : 4 * suc k ≡ suc (suc (suc (suc (4 * k)))) = omega arith in
    let z : 0 - p ≡ 0 = omega arith in
    (λ i. le_bytes 4 (z i) ++ links_zero k (p + 4) i) ∙ ap (λ n. zeros n) (sym e)

-- what comes before the next block
pub begun_front : (m x : List ℕ) → m ++ (front m ++ x) ≡ begun m ++ x
begun_front [] x = refl
begun_front (b ∷ m) x = refl

pub begun_same : (m : List ℕ) → 0 < length m → begun m ≡ m
begun_same [] h = absurd (omega (arith, h))
begun_same (b ∷ m) h = refl

pub begun_length : (m : List ℕ) → length m ≤ length (begun m)
begun_length [] = omega arith
begun_length (b ∷ m) = omega arith

pub begun_some : (m : List ℕ) → (0 < length m → 8 ≤ length m) → 8 ≤ length (begun m)
begun_some [] h = omega arith
begun_some (b ∷ m) h = h (omega arith)
