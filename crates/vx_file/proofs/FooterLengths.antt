-- How many bytes a footer has, and that a short one fits its form.
use Rattle.std.proofs.Common.{ℕ, zero, suc, ◌≡◌, ◌+◌, ◌*◌, ◌-◌, ◌^◌, ◌<◌, ◌≤◌, Bool, true, IsTrue, min, List, [], ◌∷◌, ◌++◌, length, get_or, drop, refl, sym, ap, ◌∙◌, subst, arith, length-append}
use Rattle.std.specs.Prelude.{nat_le}
use Rattle.std.specs.List.{flat_map, AllByRecursion}
use Rattle.std.specs.Str.{is_utf8}
use Rattle.std.proofs.lemmas.Bool.{le-leb, and_from}
use Rattle.std.proofs.lemmas.List.{drop_more, drop_all}
use Rattle.std.proofs.lemmas.List.Concat.{flat_map-cons}
use Rattle.vx_forms.specs.Frame.{FitsFrame}
use Rattle.vx_forms.specs.Numbers.{uint32, uint64, is_within}
use Rattle.vx_forms.specs.Octets.{octets, octets_written, text}
use Rattle.vx_file.specs.Footer.{Footer, FileRange, most, range_form, ranges_form, ids_form, footer_form}

-- ---- lengths

word_length : (n : ℕ) → length (uint32.write n) ≡ 4
word_length n = refl

long_length : (n : ℕ) → length (uint64.write n) ≡ 8
long_length n = refl

octets_length : (xs : List ℕ) → length (octets_written xs) ≡ 4 + length xs
octets_length xs = omega (arith, length-append (uint32.write (length xs)) xs, word_length (length xs))

range_length : (r : FileRange) → length (range_form.write r) ≡ 16
range_length r = omega (arith, length-append (uint64.write r.start) (uint64.write r.len), long_length r.start, long_length r.len)

each_length : (rs : List FileRange) → length (flat_map range_form.write rs) ≡ 16 * length rs
each_length [] = refl
each_length (r ∷ rs) =
    ap length (flat_map-cons range_form.write r rs)
    ∙ omega (arith, length-append (range_form.write r) (flat_map range_form.write rs), range_length r, each_length rs)

-- The first identifier after its length, and the others.
ids_cons : (id : List ℕ) (ids : List (List ℕ)) → length (flat_map octets_written (id ∷ ids)) ≡ 4 + length id + length (flat_map octets_written ids)
ids_cons id ids =
    ap length (flat_map-cons octets_written id ids)
    ∙ omega (arith, length-append (octets_written id) (flat_map octets_written ids), octets_length id)

-- A list of identifiers from one place on.
pub ids_from : (ids : List (List ℕ)) (i : ℕ) (d : List ℕ) → i < length ids
    → length (flat_map octets_written (drop i ids)) ≡ 4 + length (get_or ids i d) + length (flat_map octets_written (drop (i + 1) ids))
ids_from ids i d h =
    ap (λ z. length (flat_map octets_written z)) (drop_more ids i d h) ∙ ids_cons (get_or ids i d) (drop (i + 1) ids)

-- Nothing is left of it at its end.
pub ids_end : (ids : List (List ℕ)) (i : ℕ) → length ids ≤ i → length (flat_map octets_written (drop i ids)) ≡ 0
ids_end ids i h = ap (λ z. length (flat_map octets_written z)) (drop_all i ids h)

-- Each identifier is shorter than all of them after their lengths.
pub id_shorter : (ids : List (List ℕ)) (i : ℕ) (d : List ℕ) → i < length ids → length (get_or ids i d) ≤ length (flat_map octets_written ids)
id_shorter [] i d h = absurd (omega (arith, h))
id_shorter (id ∷ ids) zero d h = omega (arith, ids_cons id ids)
id_shorter (id ∷ ids) (suc i) d h = omega (arith, ids_cons id ids, id_shorter ids i d (omega (arith, h)))

-- There are no more identifiers than these bytes.
pub ids_fewer : (ids : List (List ℕ)) → length ids ≤ length (flat_map octets_written ids)
ids_fewer [] = omega arith
ids_fewer (id ∷ ids) = omega (arith, ids_cons id ids, ids_fewer ids)

-- The number of bytes of a footer.
pub footer_length : (f : Footer) → length (footer_form.write f) ≡ 16 * length f.ranges + length (flat_map octets_written f.ids) + length f.type_message + 20
footer_length f =
    let ranges = ranges_form.write f.ranges in
    let ids = ids_form.write f.ids in
    let message = octets_written f.type_message in
    omega (
      arith,
      length-append (uint64.write f.rows) (ranges ++ (ids ++ message)),
      long_length f.rows,
      length-append ranges (ids ++ message),
      length-append (uint32.write (length f.ranges)) (flat_map range_form.write f.ranges),
      word_length (length f.ranges),
      each_length f.ranges,
      length-append ids message,
      length-append (uint32.write (length f.ids)) (flat_map octets_written f.ids),
      word_length (length f.ids),
      octets_length f.type_message,
    )

-- A footer is long where its parts are, and short where they are.
pub footer_long : (f : Footer) (len : ℕ) → len ≤ 16 * length f.ranges + length (flat_map octets_written f.ids) + length f.type_message + 20 → 2 ^ 32 ≤ len → 2 ^ 32 ≤ length (footer_form.write f)
footer_long f len h k = omega (arith, footer_length f, h, k)

pub footer_short : (f : Footer) → 16 * length f.ranges + length (flat_map octets_written f.ids) + length f.type_message + 20 < 2 ^ 32 → length (footer_form.write f) < 2 ^ 32
footer_short f h = omega (arith, footer_length f, h)

-- ---- what fits

count_fits : (n : ℕ) → n < 2 ^ 32 → IsTrue (is_within 0 most n)
count_fits n h = and_from (nat_le 0 n) (nat_le n most) (le-leb 0 n (omega arith)) (le-leb n most (omega (arith, h)))

texts_fit : (ids : List (List ℕ)) → AllByRecursion (λ id. IsTrue (is_utf8 id)) ids → length (flat_map octets_written ids) < 2 ^ 32 → AllByRecursion (text 0 most).Fits ids
texts_fit [] all h = tt
texts_fit (id ∷ ids) all h =
    let cons = ids_cons id ids in
    let len : length id < 2 ^ 32 = omega (arith, cons, h) in
    ((all.0, (count_fits (length id) len, len)), texts_fit ids all.1 (omega (arith, cons, h)))

-- A footer of under 2^32 bytes fits its form, where its numbers have eight bytes and its identifiers are texts.
pub footer_fits : (f : Footer) → f.rows < 2 ^ 64 → AllByRecursion range_form.Fits f.ranges → AllByRecursion (λ id. IsTrue (is_utf8 id)) f.ids
    → length (footer_form.write f) < 2 ^ 32 → FitsFrame footer_form f
footer_fits f rows ranges texts h =
    let all = footer_length f in
    let few : length f.ranges < 2 ^ 32 = omega (arith, all, h) in
    let short : length (flat_map octets_written f.ids) < 2 ^ 32 = omega (arith, all, h) in
    let named : length f.ids < 2 ^ 32 = omega (arith, ids_fewer f.ids, short) in
    let told : length f.type_message < 2 ^ 32 = omega (arith, all, h) in
    record {
      fits = (
        rows,
        ((count_fits (length f.ranges) few, few, ranges), ((count_fits (length f.ids) named, named, texts_fit f.ids texts short), (count_fits (length f.type_message) told, told))),
      );
      len = h;
    }
