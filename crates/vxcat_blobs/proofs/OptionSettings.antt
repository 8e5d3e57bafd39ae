-- What options set that are given one after the other.
use Rattle.std.proofs.Common.{ℕ, ◌≡◌, ◌≤◌, Bool, true, false, List, [], ◌∷◌, ◌++◌, Option, Some, None, length, unwrap_or, refl, sym, ap, ◌∙◌, subst, arith, append-nil}
use Rattle.std.specs.Prelude.{slice_get}
use Rattle.std.specs.List.{flat_map, filter_map}
use Rattle.std.proofs.lemmas.Option.{same_Some}
use Rattle.vxcat_blobs.specs.Options.{AreOptions, Setting, pad, rows, allow, unknown, deep, revised, pad_of, rows_of, allow_of, unknown_of, deep_of, revised_of, setting_words, settings_of}
use Rattle.vxcat_blobs.specs.GivenOptions.{Given, Gives, none_given, settings_by, with_settings}
use Rattle.vxcat_blobs.proofs.OptionFronts.{with_settings-None}

held : {A : Type 0} → Option A → List A
held None = []
held (Some n) = n ∷ []

-- An option without a value that was not given holds nothing.
held_flag : Bool → List Bool
held_flag false = []
held_flag true = true ∷ []

none_some : (given : Given) → (let n : Option Given = None in n ≡ Some given) → ⊥
none_some given e = absurd (cc)

abbrev given : Option ℕ → Option ℕ → Option (List ℕ) → Bool → Bool → Bool → Given
given p r a u d v = record { pad = p; rows = r; allow = a; unknown = u; deep = d; revised = v }

-- Each kind holds what it held before, and then what was given.
record Adds (p r : Option ℕ) (a : Option (List ℕ)) (u d v : Bool) (more : List Setting) (after : Given) : Type 0 where
  pub pads : held after.pad ≡ held p ++ filter_map pad_of more
  pub rows : held after.rows ≡ held r ++ filter_map rows_of more
  pub allows : held after.allow ≡ held a ++ filter_map allow_of more
  pub unknowns : held_flag after.unknown ≡ held_flag u ++ filter_map unknown_of more
  pub deeps : held_flag after.deep ≡ held_flag d ++ filter_map deep_of more
  pub reviseds : held_flag after.revised ≡ held_flag v ++ filter_map revised_of more

adds : (p r : Option ℕ) (a : Option (List ℕ)) (u d v : Bool) (more : List Setting) (after : Given) → with_settings (Some (given p r a u d v)) more ≡ Some after → Adds p r a u d v more after
unfolding held held_flag
adds p r a u d v [] after e =
    let same = same_Some (given p r a u d v) after e in
    record {
      pads = ap (λ (o : Given). held o.pad) (sym same) ∙ sym (append-nil (held p));
      rows = ap (λ (o : Given). held o.rows) (sym same) ∙ sym (append-nil (held r));
      allows = ap (λ (o : Given). held o.allow) (sym same) ∙ sym (append-nil (held a));
      unknowns = ap (λ (o : Given). held_flag o.unknown) (sym same) ∙ sym (append-nil (held_flag u));
      deeps = ap (λ (o : Given). held_flag o.deep) (sym same) ∙ sym (append-nil (held_flag d));
      reviseds = ap (λ (o : Given). held_flag o.revised) (sym same) ∙ sym (append-nil (held_flag v));
    }
adds None r a u d v (pad n ∷ more) after e = let x = adds (Some n) r a u d v more after e in record { pads = x.pads; rows = x.rows; allows = x.allows; unknowns = x.unknowns; deeps = x.deeps; reviseds = x.reviseds }
adds (Some m) r a u d v (pad n ∷ more) after e = absurd (none_some after (sym (with_settings-None more) ∙ e))
adds p None a u d v (rows n ∷ more) after e = let x = adds p (Some n) a u d v more after e in record { pads = x.pads; rows = x.rows; allows = x.allows; unknowns = x.unknowns; deeps = x.deeps; reviseds = x.reviseds }
adds p (Some m) a u d v (rows n ∷ more) after e = absurd (none_some after (sym (with_settings-None more) ∙ e))
adds p r None u d v (allow n ∷ more) after e = let x = adds p r (Some n) u d v more after e in record { pads = x.pads; rows = x.rows; allows = x.allows; unknowns = x.unknowns; deeps = x.deeps; reviseds = x.reviseds }
adds p r (Some m) u d v (allow n ∷ more) after e = absurd (none_some after (sym (with_settings-None more) ∙ e))
adds p r a false d v (unknown ∷ more) after e = let x = adds p r a true d v more after e in record { pads = x.pads; rows = x.rows; allows = x.allows; unknowns = x.unknowns; deeps = x.deeps; reviseds = x.reviseds }
adds p r a true d v (unknown ∷ more) after e = absurd (none_some after (sym (with_settings-None more) ∙ e))
adds p r a u false v (deep ∷ more) after e = let x = adds p r a u true v more after e in record { pads = x.pads; rows = x.rows; allows = x.allows; unknowns = x.unknowns; deeps = x.deeps; reviseds = x.reviseds }
adds p r a u true v (deep ∷ more) after e = absurd (none_some after (sym (with_settings-None more) ∙ e))
adds p r a u d false (revised ∷ more) after e = let x = adds p r a u d true more after e in record { pads = x.pads; rows = x.rows; allows = x.allows; unknowns = x.unknowns; deeps = x.deeps; reviseds = x.reviseds }
adds p r a u d true (revised ∷ more) after e = absurd (none_some after (sym (with_settings-None more) ∙ e))

first_held : {A : Type 0} (o : Option A) (ns : List A) → held o ≡ ns → (length ns ≤ 1) × (o ≡ slice_get ns 0)
unfolding held
first_held {A} None ns e = let P : List A → Type 0 = λ l. (length l ≤ 1) × (None ≡ slice_get l 0) in subst P e (omega arith, refl)
first_held {A} (Some n) ns e = let P : List A → Type 0 = λ l. (length l ≤ 1) × (Some n ≡ slice_get l 0) in subst P e (omega arith, refl)

flag_held : (u : Bool) (bs : List Bool) → held_flag u ≡ bs → (length bs ≤ 1) × (u ≡ unwrap_or (slice_get bs 0) false)
unfolding held_flag
flag_held false bs e = let P : List Bool → Type 0 = λ l. (length l ≤ 1) × (false ≡ unwrap_or (slice_get l 0) false) in subst P e (omega arith, refl)
flag_held true bs e = let P : List Bool → Type 0 = λ l. (length l ≤ 1) × (true ≡ unwrap_or (slice_get l 0) false) in subst P e (omega arith, refl)

-- The words are options, and they set what the given ones set.
pub record Sets (words : List (List ℕ)) (after : Given) : Type 0 where
  pub settings : List Setting
  pub words_are : words ≡ flat_map setting_words settings
  pub are_options : AreOptions settings
  pub settings_are : settings_by after ≡ settings_of settings

pub sets : (words : List (List ℕ)) (after : Given) → Gives none_given words after → Sets words after
unfolding held held_flag
sets words after gives =
    let more = adds None None None false false false gives.settings after gives.once in
    let pads = first_held after.pad (filter_map pad_of gives.settings) more.pads in
    let rows = first_held after.rows (filter_map rows_of gives.settings) more.rows in
    let allows = first_held after.allow (filter_map allow_of gives.settings) more.allows in
    let unknowns = flag_held after.unknown (filter_map unknown_of gives.settings) more.unknowns in
    let deeps = flag_held after.deep (filter_map deep_of gives.settings) more.deeps in
    let reviseds = flag_held after.revised (filter_map revised_of gives.settings) more.reviseds in
    record {
      settings = gives.settings;
      words_are = gives.words_are;
      are_options = record { in_range = gives.in_range; pad_once = pads.0; rows_once = rows.0; allow_once = allows.0; unknown_once = unknowns.0; deep_once = deeps.0; revised_once = reviseds.0 };
      settings_are = λ i. record { pad = pads.1 i; rows = unwrap_or (rows.1 i) 10; allow = allows.1 i; unknown = unknowns.1 i; deep = deeps.1 i; revised = reviseds.1 i };
    }

one_at_most : {A : Type 0} (m n : A) (ns : List A) → length (m ∷ n ∷ ns) ≤ 1 → ⊥
one_at_most m n ns h = absurd (omega (arith, h))

taken : (p r : Option ℕ) (a : Option (List ℕ)) (u d v : Bool) (more : List Setting) → length (held p ++ filter_map pad_of more) ≤ 1 → length (held r ++ filter_map rows_of more) ≤ 1
    → length (held a ++ filter_map allow_of more) ≤ 1 → length (held_flag u ++ filter_map unknown_of more) ≤ 1 → length (held_flag d ++ filter_map deep_of more) ≤ 1
    → length (held_flag v ++ filter_map revised_of more) ≤ 1
    → (after : Given) × (with_settings (Some (given p r a u d v)) more ≡ Some after)
unfolding held held_flag
taken p r a u d v [] h k l m o w = (given p r a u d v, refl)
taken None r a u d v (pad n ∷ more) h k l m o w = taken (Some n) r a u d v more h k l m o w
taken (Some x) r a u d v (pad n ∷ more) h k l m o w = absurd (one_at_most x n (filter_map pad_of more) h)
taken p None a u d v (rows n ∷ more) h k l m o w = taken p (Some n) a u d v more h k l m o w
taken p (Some x) a u d v (rows n ∷ more) h k l m o w = absurd (one_at_most x n (filter_map rows_of more) k)
taken p r None u d v (allow n ∷ more) h k l m o w = taken p r (Some n) u d v more h k l m o w
taken p r (Some x) u d v (allow n ∷ more) h k l m o w = absurd (one_at_most x n (filter_map allow_of more) l)
taken p r a false d v (unknown ∷ more) h k l m o w = taken p r a true d v more h k l m o w
taken p r a true d v (unknown ∷ more) h k l m o w = absurd (one_at_most true true (filter_map unknown_of more) m)
taken p r a u false v (deep ∷ more) h k l m o w = taken p r a u true v more h k l m o w
taken p r a u true v (deep ∷ more) h k l m o w = absurd (one_at_most true true (filter_map deep_of more) o)
taken p r a u d false (revised ∷ more) h k l m o w = taken p r a u d true more h k l m o w
taken p r a u d true (revised ∷ more) h k l m o w = absurd (one_at_most true true (filter_map revised_of more) w)

-- Words that are options give some.
pub gives_some : (words : List (List ℕ)) (settings : List Setting) → words ≡ flat_map setting_words settings → AreOptions settings → (after : Given) × Gives none_given words after
unfolding held held_flag
gives_some words settings words_are are =
    let found = taken None None None false false false settings are.pad_once are.rows_once are.allow_once are.unknown_once are.deep_once are.revised_once in
    (found.0, record { settings = settings; words_are = words_are; in_range = are.in_range; once = found.1 })
