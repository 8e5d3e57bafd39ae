-- The steps of the loop that selects columns.
use Rattle.std.proofs.Common.{ℕ, ◌≡◌, ◌+◌, ◌<◌, ◌≤◌, List, [], ◌∷◌, ◌++◌, Option, Some, map, length, take, refl, sym, ap, ◌∙◌, subst, arith}
use Rattle.std.specs.Prelude.{slice_get, get_or, sum_by, Contains, All}
use Rattle.std.proofs.lemmas.List.{map-append, take_more, take_all}
use Rattle.std.proofs.lemmas.List.Sums.{sum_by_more}
use Rattle.std.proofs.lemmas.List.Elements.{Contains-get_or, All-contains}
use Rattle.vx_array_tree.specs.Tree.{Tree}
use Rattle.vx_wire_tree.specs.Session.{SessionMeaning, IsShipped}
use Rattle.vx_serialized.specs.Refusals.{wire_error}
use Rattle.vx_file.specs.declared.error.FileError.{FileError}
use Rattle.vx_file.specs.declared.error.FileError.TheVariants.{OutOfMemory, StoreFault, NotAFile, BadType, NoColumn, BadColumn, NotAStruct, TooLong, Wire}
use Rattle.vx_file.specs.Causes.{RefusesColumn, RefusesSelecting, IsMemoryOrFault, IsBadColumn}
use Rattle.vx_file.specs.Footer.{FileRange}
use Rattle.vx_file.specs.Ranges.{RangesState, HasTaken, HasRisen, Tells}
use Rattle.vx_file.specs.Selecting.{Picks, StandAt, EndWithin, len_of, taken_by}
use Rattle.vx_file.specs.Shows.{File, FileShows}
use Rattle.vx_file.specs.Spells.{FileSpells}
use Rattle.vx_file.specs.Tables.{columns_of}
use Rattle.vx_file.proofs.Taking.{taken_none, taken_twice, taken_as}

-- One more column was picked.
pub picks_step : {A : Type 0} (xs : List A) (asked : List ℕ) (i d : ℕ) (got more : List A) (x : A) → i < length asked → Picks xs (take i asked) got → slice_get xs (get_or asked i d) ≡ Some x → more ≡ got ++ x ∷ [] → Picks xs (take (i + 1) asked) more
picks_step xs asked i d got more x h p e m =
    let f : ℕ → Option _ = λ k. slice_get xs k in
    let g : _ → Option _ = λ z. Some z in
    ap (λ ks. map f ks) (take_more asked i d h)
    ∙ (map-append f (take i asked) (get_or asked i d ∷ [])
    ∙ (ap (λ zs. zs ++ f (get_or asked i d) ∷ []) p
    ∙ (ap (λ z. map g got ++ z ∷ []) e
    ∙ (sym (map-append g got (x ∷ [])) ∙ ap (λ zs. map g zs) (sym m)))))

-- All were.
pub picks_done : {A : Type 0} (xs : List A) (asked : List ℕ) (i : ℕ) (got : List A) → length asked ≤ i → Picks xs (take i asked) got → Picks xs asked got
picks_done xs asked i got h p = subst (λ ks. Picks xs ks got) (take_all i asked h) p

-- The bytes of one more column were loaded.
pub taken_step : (rs : List FileRange) (asked : List ℕ) (i d : ℕ) (x y z : RangesState) → i < length asked → HasTaken (taken_by rs (take i asked)) x y → HasTaken (len_of (slice_get rs (get_or asked i d))) y z → HasTaken (taken_by rs (take (i + 1) asked)) x z
taken_step rs asked i d x y z h so_far one =
    let f : ℕ → ℕ = λ k. len_of (slice_get rs k) in
    taken_as (taken_by rs (take i asked) + f (get_or asked i d)) (taken_by rs (take (i + 1) asked)) x z (sym (sum_by_more f asked i d h))
    (taken_twice (taken_by rs (take i asked)) (f (get_or asked i d)) x y z so_far one)

pub taken_done : (rs : List FileRange) (asked : List ℕ) (i : ℕ) (x y : RangesState) → length asked ≤ i → HasTaken (taken_by rs (take i asked)) x y → HasTaken (taken_by rs asked) x y
taken_done rs asked i x y h t = taken_as (taken_by rs (take i asked)) (taken_by rs asked) x y (ap (λ ks. taken_by rs ks) (take_all i asked h)) t

-- What is told is told after a load.
pub told_since : (n : ℕ) (x y : RangesState) (bytes : List ℕ) → HasTaken n x y → Tells x bytes → Tells y bytes
told_since n x y bytes t h = t.told ∙ h

-- The columns so far are those that were asked so far, and their ranges alone were loaded.
pub record HasSelected (s : SessionMeaning) (file : File) (start : ℕ) (asked : List ℕ) (got : List Tree) (before now : RangesState) : Type 0 where
  pub picked : IsShipped s → (bytes own : List ℕ) (t : Tree) → Tells before bytes → StandAt bytes start own → FileShows own file → FileSpells own s t → Picks (columns_of t) asked got
  pub taken : HasTaken (taken_by file.ranges asked) before now

module _ (s : SessionMeaning) (file : File) (start : ℕ) where
  -- No column was asked yet.
  pub nothing_selected : (got : List Tree) (x : RangesState) → got ≡ [] → HasSelected s file start [] got x x
  nothing_selected got x e =
      let P : List Tree → Type 0 = λ z. HasSelected s file start [] z x x in
      let none : P [] = record { picked = λ ok bytes own t tells stand shows spells. refl; taken = taken_none x } in
      subst P (sym e) none

  -- One more was loaded.
  pub selected_step : (asked : List ℕ) (i d : ℕ) (got more : List Tree) (x y z : RangesState) (array : Tree) → i < length asked → HasSelected s file start (take i asked) got x y
      → (IsShipped s → (bytes own : List ℕ) (t : Tree) → Tells y bytes → StandAt bytes start own → FileShows own file → FileSpells own s t → slice_get (columns_of t) (get_or asked i d) ≡ Some array)
      → HasTaken (len_of (slice_get file.ranges (get_or asked i d))) y z → more ≡ got ++ array ∷ [] → HasSelected s file start (take (i + 1) asked) more x z
  selected_step asked i d got more x y z array h so one n m = record {
    picked = λ ok bytes own t tells stand shows spells.
        picks_step (columns_of t) asked i d got more array h (so.picked ok bytes own t tells stand shows spells)
        (one ok bytes own t (told_since (taken_by file.ranges (take i asked)) x y bytes so.taken tells) stand shows spells) m;
    taken = taken_step file.ranges asked i d x y z h so.taken n;
  }

  -- All were.
  pub selected_done : (asked all : List ℕ) (i : ℕ) (got : List Tree) (x y : RangesState) → length asked ≤ i → asked ≡ all → HasSelected s file start (take i asked) got x y → HasSelected s file start all got x y
  selected_done asked all i got x y h e so =
      let P : List ℕ → Type 0 = λ ks. HasSelected s file start ks got x y in
      subst P (take_all i asked h ∙ e) so

-- The ranges end within the file after a load as before it.
pub still_within : (n : ℕ) (x y : RangesState) (start : ℕ) (ranges : List FileRange) → HasTaken n x y → EndWithin x.size start ranges → EndWithin y.size start ranges
still_within n x y start ranges t h =
    let P : ℕ → Type 0 = λ k. EndWithin k start ranges in
    subst P (sym t.size) h

-- ---- refusals

-- A fault that rose since the last load has risen since the first.
risen_since : (n : ℕ) (x y z : RangesState) → HasTaken n x y → HasRisen y.faults z.faults → HasRisen x.faults z.faults
risen_since n x y z t h = subst (λ k. HasRisen k z.faults) t.faults h

-- A column that is refused is one that was asked.
column_refused : (s : SessionMeaning) (file : File) (start : ℕ) (asked : List ℕ) (i d n : ℕ) (x y z : RangesState) (e : FileError) → i < length asked → HasTaken n x y → RefusesColumn s file start (get_or asked i d) y z e
    → RefusesSelecting s file start asked x z e
column_refused s file start asked i d n x y z OutOfMemory h t u = tt
column_refused s file start asked i d n x y z StoreFault h t u = risen_since n x y z t u
column_refused s file start asked i d n x y z (NoColumn k) h t u =
    let P : ℕ → Type 0 = λ c. Contains asked c × (length file.ranges ≤ c) in
    subst P (sym u.0) (Contains-get_or asked i d h, u.1)
column_refused s file start asked i d n x y z (BadColumn k r) h t u =
    let P : ℕ → Type 0 = λ c. Contains asked c × ((bytes : List ℕ) → Tells x bytes → IsBadColumn s (wire_error r) bytes start file c) in
    subst P (sym u.0) (Contains-get_or asked i d h, λ bytes tells. u.1 bytes (told_since n x y bytes t tells))
column_refused s file start asked i d n x y z NotAFile h t u = absurd u
column_refused s file start asked i d n x y z BadType h t u = absurd u
column_refused s file start asked i d n x y z NotAStruct h t u = absurd u
column_refused s file start asked i d n x y z TooLong h t u = absurd u
column_refused s file start asked i d n x y z (Wire r) h t u = absurd u

-- The same where what is asked has another name.
pub selecting_refused : (s : SessionMeaning) (file : File) (start : ℕ) (asked all : List ℕ) (i d n : ℕ) (x y z : RangesState) (e : FileError) → i < length asked → asked ≡ all → HasTaken n x y
    → RefusesColumn s file start (get_or asked i d) y z e → RefusesSelecting s file start all x z e
selecting_refused s file start asked all i d n x y z e h same t u =
    let P : List ℕ → Type 0 = λ ks. RefusesSelecting s file start ks x z e in
    subst P same (column_refused s file start asked i d n x y z e h t u)

-- An allocation or a load that failed did so since the first load.
pub memory_or_fault : (n : ℕ) (x y z : RangesState) (e : FileError) → HasTaken n x y → IsMemoryOrFault e y z → IsMemoryOrFault e x z
memory_or_fault n x y z OutOfMemory t u = tt
memory_or_fault n x y z StoreFault t u = risen_since n x y z t u
memory_or_fault n x y z NotAFile t u = absurd u
memory_or_fault n x y z BadType t u = absurd u
memory_or_fault n x y z (NoColumn k) t u = absurd u
memory_or_fault n x y z (BadColumn k r) t u = absurd u
memory_or_fault n x y z NotAStruct t u = absurd u
memory_or_fault n x y z TooLong t u = absurd u
memory_or_fault n x y z (Wire r) t u = absurd u

-- A column that is asked is there.
pub asked_within : (asked all : List ℕ) (i d most : ℕ) → i < length asked → asked ≡ all → All (λ k. k < most) all → get_or asked i d < most
asked_within asked all i d most h same each =
    let P : List ℕ → Type 0 = λ ks. All (λ k. k < most) ks in
    All-contains (λ k. k < most) asked (get_or asked i d) (subst P (sym same) each) (Contains-get_or asked i d h)
