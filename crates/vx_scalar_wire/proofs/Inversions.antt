-- What is known of a value that is read from a message, by the member that the message holds.
use Rattle.std.proofs.Common.{◌≡◌, ◌∙◌, Bool, ℕ, List, [], ◌∷◌, refl, sym, ap, subst, inr, arith}
use Rattle.vx_trees.specs.Rose.{node, end, more}
use Rattle.vx_proto.specs.Parts.{flag_number}
use Rattle.vx_proto.specs.Value.{Content, Value, number, octets, message, slots_of}
use Rattle.vx_proto.proofs.LawsOfForms.{same_octets}
use Rattle.vx_type_wire.specs.Known.{ExtMeaning, IsRead}
use Rattle.vx_proto.specs.Value.{one_number, one_message}
use Rattle.vx_type_wire.specs.TypeMessage.{IsMessageOf, all_messages}
use Rattle.vx_types.specs.Content.{IsText}
use Rattle.vx_types.specs.Fits.{FitBy, FitsMember, IsBoolean, IsOf, IsDecimal, IsUtf8, IsBinary, IsVariant, bare}
use Rattle.vx_numbers.specs.Numbers.{kind_of}
use Rattle.vx_types.specs.Typ.{Typ}
use Rattle.vx_types.specs.Value as V
use Rattle.vx_types.specs.Well.{IsInRange, IsDecimalInRange}
use Rattle.vx_numbers.specs.declared.value.PValue.{PValue}
use Rattle.vx_scalar_wire.specs.Reading.{Holds, HoldsNumber, HoldsOctets, ReadsParts, ReadsValue, EachReads, ReadsBy}
use Rattle.vx_scalar_wire.specs.ScalarMessage.{decimal_bytes}
use Rattle.vx_scalar_wire.proofs.OneValue.{rank, rank_in, bytes_rank, ranked, mark_ranked, octets_ranked, decimals, texts, binaries, same_held, one_octets}

-- The mark's number is that of the member at the type.
mark_at : (s : ExtMeaning) (k : V.Mark) (vs : V.Values) (d : Typ) (m : Value) (g : ℕ) (c : Content) → Holds m g c → ReadsValue s (node k vs) d m → rank k ≡ rank_in g (bare d)
mark_at s k vs d m g c h r = mark_ranked s k vs d m r ∙ sym (ranked m g c (bare d) h)

octets_at : (s : ExtMeaning) (k : V.Mark) (vs : V.Values) (d : Typ) (m : Value) (bs : List ℕ) → HoldsOctets m bs → ReadsValue s (node k vs) d m → rank k ≡ bytes_rank (bare d)
octets_at s k vs d m bs h r = mark_ranked s k vs d m r ∙ sym (octets_ranked m bs (bare d) h)

-- A null is read as null.
pub only_null : (s : ExtMeaning) (v : V.Value) (d : Typ) (m : Value) (c : Content) → Holds m 1 c → ReadsValue s v d m → v ≡ node V.null end
only_null s (node V.null vs) d m c h r = ap (λ ws. node V.null ws) r.0
only_null s (node k vs) d m c h r = let e : rank k ≡ 1 = mark_at s k vs d m 1 c h r in absurd (omega (arith, e))

-- A flag is read as one, at a type of flags.
pub only_flag : (s : ExtMeaning) (v : V.Value) (d : Typ) (m : Value) (c : Content) → Holds m 2 c → ReadsValue s v d m
    → (b : Bool) × (v ≡ node (V.bool b) end) × IsBoolean (bare d) × Holds m 2 (number (flag_number b))
only_flag s (node (V.bool b) vs) d m c h r = (b, ap (λ ws. node (V.bool b) ws) r.1, r.0, r.2)
only_flag s (node k vs) d m c h r = let e : rank k ≡ 2 = mark_at s k vs d m 2 c h r in absurd (omega (arith, e))

-- A number's member is read as a number of the type's kind.
pub only_number : (s : ExtMeaning) (v : V.Value) (d : Typ) (m : Value) (g : ℕ) (c : Content) → rank_in g (bare d) ≡ 3 → Holds m g c → ReadsValue s v d m
    → (n : PValue) × (v ≡ node (V.number n) end) × IsOf (kind_of n) (bare d) × IsInRange n × HoldsNumber m n
only_number s (node (V.number n) vs) d m g c w h r = (n, ap (λ ws. node (V.number n) ws) r.1, r.0, r.2, r.3)
only_number s (node k vs) d m g c w h r = let e : rank k ≡ 3 = mark_at s k vs d m g c h r ∙ w in absurd (omega (arith, e))

-- A string or bytes are read as a text at a type of texts, where they are one.
pub only_text : (s : ExtMeaning) (v : V.Value) (d : Typ) (m : Value) (bs : List ℕ) → IsUtf8 (bare d) → HoldsOctets m bs → ReadsValue s v d m → (v ≡ node (V.utf8 bs) end) × IsText bs
only_text s (node (V.utf8 a) vs) d m bs u h r =
    let same = one_octets m a bs r.3 h in
    (ap (λ ws. node (V.utf8 a) ws) r.1 ∙ ap (λ x. node (V.utf8 x) end) same, subst (λ x. IsText x) same r.2)
only_text s (node k vs) d m bs u h r = let e : rank k ≡ 5 = octets_at s k vs d m bs h r ∙ texts (bare d) u in absurd (omega (arith, e))

-- They are read as bytes at a type of bytes.
pub only_binary : (s : ExtMeaning) (v : V.Value) (d : Typ) (m : Value) (bs : List ℕ) → IsBinary (bare d) → HoldsOctets m bs → ReadsValue s v d m → v ≡ node (V.binary bs) end
only_binary s (node (V.binary a) vs) d m bs u h r = ap (λ ws. node (V.binary a) ws) r.1 ∙ ap (λ x. node (V.binary x) end) (one_octets m a bs r.2 h)
only_binary s (node k vs) d m bs u h r = let e : rank k ≡ 6 = octets_at s k vs d m bs h r ∙ binaries (bare d) u in absurd (omega (arith, e))

-- Bytes are read as a decimal at a type of decimals, where they are those of one.
pub only_decimal : (s : ExtMeaning) (v : V.Value) (d : Typ) (m : Value) (bs : List ℕ) → IsDecimal (bare d) → Holds m 8 (octets bs) → ReadsValue s v d m
    → (x : V.DecimalValue) × (v ≡ node (V.decimal x) end) × IsDecimalInRange x × (decimal_bytes x ≡ bs)
only_decimal s (node (V.decimal x) vs) d m bs u h r =
    (x, ap (λ ws. node (V.decimal x) ws) r.1, r.2, same_octets (decimal_bytes x) bs (same_held m 8 (octets (decimal_bytes x)) (octets bs) r.3 h))
only_decimal s (node k vs) d m bs u h r = let e : rank k ≡ 4 = octets_at s k vs d m bs (inr h) r ∙ decimals (bare d) u in absurd (omega (arith, e))

-- They are read as nothing at any other type.
pub no_octets : (s : ExtMeaning) (v : V.Value) (d : Typ) (m : Value) (bs : List ℕ) → bytes_rank (bare d) ≡ 0 → HoldsOctets m bs → ReadsValue s v d m → ⊥
no_octets s (node V.opaque vs) d m bs u h r = r
no_octets s (node k vs) d m bs u h r = let e : rank k ≡ 0 = octets_at s k vs d m bs h r ∙ u in absurd (omega (arith, e))

-- A list is read as a tuple.
pub only_tuple : (s : ExtMeaning) (v : V.Value) (d : Typ) (m : Value) (c : Content) → Holds m 9 c → ReadsValue s v d m
    → (vs : V.Values) × (v ≡ node V.tuple vs) × ((ws : List Value) × Holds m 9 (message (slots_of (all_messages 1 ws ∷ [])))
    × ReadsParts (λ e. EachReads s vs e ws) (λ ts. ReadsBy s vs ts ws) (bare d))
only_tuple s (node V.tuple vs) d m c h r = (vs, refl, r)
only_tuple s (node k vs) d m c h r = let e : rank k ≡ 7 = mark_at s k vs d m 9 c h r in absurd (omega (arith, e))

-- A union's member is read as a value under its tag.
pub only_union : (s : ExtMeaning) (v : V.Value) (d : Typ) (m : Value) (c : Content) → Holds m 11 c → ReadsValue s v d m
    → (tag : ℕ) × (vs : V.Values) × (v ≡ node (V.union tag) vs) × ((w : Value) × Holds m 11 (message (slots_of (one_number 1 tag ∷ one_message 2 w ∷ [])))
    × FitsMember tag (λ ts. ReadsBy s vs ts (w ∷ []) × FitBy vs ts) (bare d))
only_union s (node (V.union tag) vs) d m c h r = (tag, vs, refl, r)
only_union s (node k vs) d m c h r = let e : rank k ≡ 8 = mark_at s k vs d m 11 c h r in absurd (omega (arith, e))

-- A variant is read as the scalar in it.
pub only_variant : (s : ExtMeaning) (v : V.Value) (d : Typ) (m : Value) (c : Content) → Holds m 12 c → ReadsValue s v d m
    → (e : Typ) × (vs : V.Values) × (v ≡ node (V.variant e) vs) × IsVariant (bare d) × ((t : Value) × (w : Value) × Holds m 12 (message (slots_of (one_message 1 t ∷ one_message 2 w ∷ [])))
    × IsRead (IsMessageOf t) s e × ReadsBy s vs (more e end) (w ∷ []) × FitBy vs (more e end))
only_variant s (node (V.variant e) vs) d m c h r = (e, vs, refl, r.0, r.1)
only_variant s (node k vs) d m c h r = let e : rank k ≡ 9 = mark_at s k vs d m 12 c h r in absurd (omega (arith, e))
