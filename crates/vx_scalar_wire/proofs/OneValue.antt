-- A message is read as one value at most, at one type and under the same readers.
use Rattle.std.specs.Prelude.{if◌then◌else◌}
use Rattle.std.proofs.Common.{◌≡◌, ◌∙◌, ◌==◌, Bool, true, false, ℕ, ℤ, pos, negsuc, List, [], ◌∷◌, refl, sym, ap, subst, inl, inr, arith}
use Rattle.std.proofs.lemmas.Option.{same_Some}
use Rattle.vx_trees.specs.Rose.{Roses, node, end, more}
use Rattle.vx_proto.specs.Parts.{flag_number}
use Rattle.vx_proto.specs.Signed.{zigzag}
use Rattle.vx_proto.specs.Value.{Content, Entry, Value, number, octets, message, slots_of}
use Rattle.vx_proto.proofs.LawsOfForms.{same_content, same_others, same_slot, same_rest, same_number, same_octets, same_message}
use Rattle.vx_proto.proofs.LawsOfBytes.{zigzag_one}
use Rattle.vx_type_wire.specs.Known.{ExtMeaning}
use Rattle.vx_proto.specs.Value.{one_message}
use Rattle.vx_type_wire.specs.TypeMessage.{all_messages}
use Rattle.vx_type_wire.proofs.LawsTypes.{message-injective}
use Rattle.vx_types.specs.Fits.{FitBy, FitsMember, IsDecimal, IsUtf8, IsBinary, IsOf, bare, member}
use Rattle.vx_types.specs.Kind as K
use Rattle.vx_types.specs.Kind.{Kind}
use Rattle.vx_numbers.specs.Numbers.{kind_of}
use Rattle.vx_types.specs.Typ.{Typ}
use Rattle.vx_types.specs.Value as V
use Rattle.vx_types.specs.Words.{entries}
use Rattle.vx_numbers.specs.declared.ptype.PType.{PType}
use Rattle.vx_numbers.specs.declared.value.PValue.{PValue}
use Rattle.vx_numbers.specs.declared.value.PValue.TheVariants.{U8, U16, U32, U64, I8, I16, I32, I64, F16, F32, F64}
use Rattle.vx_scalar_wire.specs.Reading.{Holds, HoldsInteger, HoldsNumber, HoldsOctets, ReadsParts, ReadsValue, EachReads, ReadsBy}
use Rattle.vx_scalar_wire.specs.ScalarMessage.{decimal_bytes}
use Rattle.vx_scalar_wire.proofs.Digits.{one_decimal}

-- ---- the member that a message holds

-- Its number; 0 where none is held.
abbrev pub first_tag : List Entry → ℕ
first_tag [] = 0
first_tag (x ∷ xs) = x.0

abbrev pub tag_in : Value → ℕ
tag_in [] = 0
tag_in (es ∷ m) = first_tag es

pub held : (m : Value) (g : ℕ) (c : Content) → Holds m g c → tag_in m ≡ g
held m g c e = ap tag_in e

pub same_held : (m : Value) (g : ℕ) (a b : Content) → Holds m g a → Holds m g b → a ≡ b
same_held m g a b e f = same_content g g a b [] [] (same_slot _ _ [] [] (sym e ∙ f))

pub not_both : {P : Type 0} (m : Value) (g k : ℕ) (a b : Content) → Holds m g a → Holds m k b → (g ≡ k → P) → P
not_both m g k a b e f h = h (sym (held m g a e) ∙ held m k b f)

-- ---- which mark is read, by the member's number and the type

-- A number for each mark.
abbrev pub rank : V.Mark → ℕ
rank V.opaque = 0
rank V.null = 1
rank (V.bool b) = 2
rank (V.number n) = 3
rank (V.decimal x) = 4
rank (V.utf8 s) = 5
rank (V.binary s) = 6
rank V.tuple = 7
rank (V.union tag) = 8
rank (V.variant d) = 9

-- That of what bytes are read as at a type.
abbrev pub bytes_rank : Typ → ℕ
bytes_rank (node (K.decimal p s m) ts) = 4
bytes_rank (node (K.utf8 m) ts) = 5
bytes_rank (node (K.binary m) ts) = 6
bytes_rank _ = 0

-- That of what a member is read as at a type.
abbrev pub rank_in : ℕ → Typ → ℕ
rank_in g d =
    if g == 1 then 1 else
    (if g == 2 then 2 else
    (if g == 7 then bytes_rank d else
    (if g == 8 then bytes_rank d else
    (if g == 9 then 7 else
    (if g == 11 then 8 else
    (if g == 12 then 9 else 3))))))

pub decimals : (d : Typ) → IsDecimal d → bytes_rank d ≡ 4
decimals (node (K.decimal p s m) ts) h = refl
decimals _ h = absurd h

pub texts : (d : Typ) → IsUtf8 d → bytes_rank d ≡ 5
texts (node (K.utf8 m) ts) h = refl
texts _ h = absurd h

pub binaries : (d : Typ) → IsBinary d → bytes_rank d ≡ 6
binaries (node (K.binary m) ts) h = refl
binaries _ h = absurd h

pub ranked : (m : Value) (g : ℕ) (c : Content) (d : Typ) → Holds m g c → rank_in g d ≡ rank_in (tag_in m) d
ranked m g c d e = ap (λ k. rank_in k d) (sym (held m g c e))

pub octets_ranked : (m : Value) (s : List ℕ) (d : Typ) → HoldsOctets m s → bytes_rank d ≡ rank_in (tag_in m) d
octets_ranked m s d (inl e) = ranked m 7 (octets s) d e
octets_ranked m s d (inr e) = ranked m 8 (octets s) d e

pub integer_ranked : (m : Value) (z : ℤ) (d : Typ) → HoldsInteger m z → 3 ≡ rank_in (tag_in m) d
integer_ranked m z d (inl e) = ranked m 3 (number (zigzag z)) d e
integer_ranked m (pos n) d (inr e) = ranked m 4 (number n) d e
integer_ranked m (negsuc n) d (inr e) = absurd e

pub number_ranked : (m : Value) (n : PValue) (d : Typ) → HoldsNumber m n → 3 ≡ rank_in (tag_in m) d
number_ranked m (U8 n) d h = integer_ranked m (pos n) d h
number_ranked m (U16 n) d h = integer_ranked m (pos n) d h
number_ranked m (U32 n) d h = integer_ranked m (pos n) d h
number_ranked m (U64 n) d h = integer_ranked m (pos n) d h
number_ranked m (I8 z) d h = integer_ranked m z d h
number_ranked m (I16 z) d h = integer_ranked m z d h
number_ranked m (I32 z) d h = integer_ranked m z d h
number_ranked m (I64 z) d h = integer_ranked m z d h
number_ranked m (F16 n) d (inl e) = ranked m 10 (number n) d e
number_ranked m (F16 n) d (inr e) = ranked m 4 (number n) d e
number_ranked m (F32 n) d e = ranked m 5 (number n) d e
number_ranked m (F64 n) d e = ranked m 6 (number n) d e

pub mark_ranked : (s : ExtMeaning) (k : V.Mark) (vs : V.Values) (d : Typ) (m : Value) → ReadsValue s (node k vs) d m → rank k ≡ rank_in (tag_in m) (bare d)
mark_ranked s V.null vs d m r = ranked m 1 (number 0) (bare d) r.1
mark_ranked s V.opaque vs d m r = absurd r
mark_ranked s (V.bool b) vs d m r = ranked m 2 (number (flag_number b)) (bare d) r.2
mark_ranked s (V.number n) vs d m r = number_ranked m n (bare d) r.3
mark_ranked s (V.decimal x) vs d m r = sym (decimals (bare d) r.0) ∙ ranked m 8 (octets (decimal_bytes x)) (bare d) r.3
mark_ranked s (V.utf8 bs) vs d m r = sym (texts (bare d) r.0) ∙ octets_ranked m bs (bare d) r.3
mark_ranked s (V.binary bs) vs d m r = sym (binaries (bare d) r.0) ∙ octets_ranked m bs (bare d) r.2
mark_ranked s V.tuple vs d m r = ranked m 9 _ (bare d) r.1
mark_ranked s (V.union tag) vs d m r = ranked m 11 _ (bare d) r.1
mark_ranked s (V.variant e) vs d m r = ranked m 12 _ (bare d) r.1.2

-- ---- what the member holds

one_flag : (a b : Bool) → flag_number a ≡ flag_number b → a ≡ b
one_flag true true e = refl
one_flag true false e = absurd (omega (arith, e))
one_flag false true e = absurd (omega (arith, e))
one_flag false false e = refl

pub one_integer : (m : Value) (y z : ℤ) → HoldsInteger m y → HoldsInteger m z → y ≡ z
one_integer m y z (inl e) (inl f) = zigzag_one y z (same_number _ _ (same_held m 3 _ _ e f))
one_integer m y (pos n) (inl e) (inr f) = not_both m 3 4 _ _ e f (λ h. absurd (omega (arith, h)))
one_integer m y (negsuc n) (inl e) (inr f) = absurd f
one_integer m (pos n) z (inr e) (inl f) = not_both m 4 3 _ _ e f (λ h. absurd (omega (arith, h)))
one_integer m (negsuc n) z (inr e) (inl f) = absurd e
one_integer m (pos n) (pos k) (inr e) (inr f) = ap pos (same_number n k (same_held m 4 _ _ e f))
one_integer m (pos n) (negsuc k) (inr e) (inr f) = absurd f
one_integer m (negsuc n) z (inr e) (inr f) = absurd e

natural : (n k : ℕ) → pos n ≡ pos k → n ≡ k
natural n k e = cc

one_half : (m : Value) (a b : ℕ) → HoldsNumber m (F16 a) → HoldsNumber m (F16 b) → a ≡ b
one_half m a b (inl e) (inl f) = same_number a b (same_held m 10 _ _ e f)
one_half m a b (inl e) (inr f) = not_both m 10 4 _ _ e f (λ h. absurd (omega (arith, h)))
one_half m a b (inr e) (inl f) = not_both m 4 10 _ _ e f (λ h. absurd (omega (arith, h)))
one_half m a b (inr e) (inr f) = same_number a b (same_held m 4 _ _ e f)

pub one_numeral : (m : Value) (a b : PValue) → kind_of a ≡ kind_of b → HoldsNumber m a → HoldsNumber m b → a ≡ b
one_numeral m (U8 a) (U8 b) k h g = ap U8 (natural a b (one_integer m (pos a) (pos b) h g))
one_numeral m (U16 a) (U16 b) k h g = ap U16 (natural a b (one_integer m (pos a) (pos b) h g))
one_numeral m (U32 a) (U32 b) k h g = ap U32 (natural a b (one_integer m (pos a) (pos b) h g))
one_numeral m (U64 a) (U64 b) k h g = ap U64 (natural a b (one_integer m (pos a) (pos b) h g))
one_numeral m (I8 a) (I8 b) k h g = ap I8 (one_integer m a b h g)
one_numeral m (I16 a) (I16 b) k h g = ap I16 (one_integer m a b h g)
one_numeral m (I32 a) (I32 b) k h g = ap I32 (one_integer m a b h g)
one_numeral m (I64 a) (I64 b) k h g = ap I64 (one_integer m a b h g)
one_numeral m (F16 a) (F16 b) k h g = ap F16 (one_half m a b h g)
one_numeral m (F32 a) (F32 b) k h g = ap F32 (same_number a b (same_held m 5 _ _ h g))
one_numeral m (F64 a) (F64 b) k h g = ap F64 (same_number a b (same_held m 6 _ _ h g))
one_numeral m _ _ k h g = absurd (cc)

pub of_kind : (p q : PType) (d : Typ) → IsOf p d → IsOf q d → p ≡ q
of_kind p q (node (K.primitive r m) ts) h g = h ∙ sym g
of_kind p q _ h g = absurd h

pub one_octets : (m : Value) (a b : List ℕ) → HoldsOctets m a → HoldsOctets m b → a ≡ b
one_octets m a b (inl e) (inl f) = same_octets a b (same_held m 7 _ _ e f)
one_octets m a b (inl e) (inr f) = not_both m 7 8 _ _ e f (λ h. absurd (omega (arith, h)))
one_octets m a b (inr e) (inl f) = not_both m 8 7 _ _ e f (λ h. absurd (omega (arith, h)))
one_octets m a b (inr e) (inr f) = same_octets a b (same_held m 8 _ _ e f)

-- Messages in a list, in a union and in a variant.
one_list : (vs us : List Value) → all_messages 1 vs ≡ all_messages 1 us → vs ≡ us
one_list [] [] e = refl
one_list [] (u ∷ us) e = absurd (cc)
one_list (v ∷ vs) [] e = absurd (cc)
one_list (v ∷ vs) (u ∷ us) e =
    let first : v ≡ u = same_message v u (same_content 1 1 _ _ _ _ e) in
    let others : vs ≡ us = one_list vs us (same_others 1 1 _ _ _ _ e) in
    λ i. first i ∷ others i

pub one_inside : (m : Value) (g : ℕ) (v w : Value) → Holds m g (message (slots_of v)) → Holds m g (message (slots_of w)) → v ≡ w
one_inside m g v w e f = same_message v w (same_held m g _ _ e f)

pub one_part : (g : ℕ) (v w : Value) → one_message g v ≡ one_message g w → v ≡ w
one_part g v w e = same_message v w (same_content g g _ _ [] [] e)

-- ---- parts

both_parts : (Each Other : Typ → Type 0) (By OtherBy : Roses Kind → Type 0) (R : Type 0) → ((e : Typ) → Each e → Other e → R) → ((ts : Roses Kind) → By ts → OtherBy ts → R)
    → (d : Typ) → ReadsParts Each By d → ReadsParts Other OtherBy d → R
both_parts Each Other By OtherBy R f g (node (K.list m) (more e end)) h k = f e h k
both_parts Each Other By OtherBy R f g (node (K.fixed_size_list z m) (more e end)) h k = f e h k
both_parts Each Other By OtherBy R f g (node (K.structure ns m) ts) h k = g ts h k
both_parts Each Other By OtherBy R f g (node (K.map b m) (more x (more y end))) h k = f (entries (record { key = x; value = y; keys_sorted = b })) h k
both_parts Each Other By OtherBy R f g _ h k = absurd h

pub both_members : (a b : ℕ) (By OtherBy : Roses Kind → Type 0) (R : Type 0) → a ≡ b → ((e : Typ) → By (more e end) → OtherBy (more e end) → R)
    → (d : Typ) → FitsMember a By d → FitsMember b OtherBy d → R
both_members a b By OtherBy R same g (node (K.union ns ids m) ts) h k =
    let one : h.0 ≡ k.0 = same_Some h.0 k.0 (sym h.1 ∙ ap (λ t. member t ids ts) same ∙ k.1) in
    g h.0 h.2 (subst (λ t. OtherBy (more t end)) (sym one) k.2)
both_members a b By OtherBy R same g _ h k = absurd h

both_ends : (k : V.Mark) (vs us : V.Values) → vs ≡ end → us ≡ end → node k vs ≡ node k us
both_ends k vs us e f = ap (λ ws. node k ws) (e ∙ sym f)

mutual
  -- What a message is read as at a type is one value.
  pub reads-one : (s : ExtMeaning) (v u : V.Value) (d : Typ) (m : Value) → ReadsValue s v d m → ReadsValue s u d m → v ≡ u
  reads-one s (node V.null vs) (node V.null us) d m r q = both_ends V.null vs us r.0 q.0
  reads-one s (node (V.bool a) vs) (node (V.bool b) us) d m r q =
      let same = one_flag a b (same_number _ _ (same_held m 2 _ _ r.2 q.2)) in
      ap (λ c. node (V.bool c) vs) same ∙ both_ends (V.bool b) vs us r.1 q.1
  reads-one s (node (V.number a) vs) (node (V.number b) us) d m r q =
      let same = one_numeral m a b (of_kind (kind_of a) (kind_of b) (bare d) r.0 q.0) r.3 q.3 in
      ap (λ c. node (V.number c) vs) same ∙ both_ends (V.number b) vs us r.1 q.1
  reads-one s (node (V.decimal a) vs) (node (V.decimal b) us) d m r q =
      let same = one_decimal a b r.2 q.2 (same_octets _ _ (same_held m 8 _ _ r.3 q.3)) in
      ap (λ c. node (V.decimal c) vs) same ∙ both_ends (V.decimal b) vs us r.1 q.1
  reads-one s (node (V.utf8 a) vs) (node (V.utf8 b) us) d m r q =
      ap (λ c. node (V.utf8 c) vs) (one_octets m a b r.3 q.3) ∙ both_ends (V.utf8 b) vs us r.1 q.1
  reads-one s (node (V.binary a) vs) (node (V.binary b) us) d m r q =
      ap (λ c. node (V.binary c) vs) (one_octets m a b r.2 q.2) ∙ both_ends (V.binary b) vs us r.1 q.1
  reads-one s (node V.tuple vs) (node V.tuple us) d m r q =
      let same = one_list r.0 q.0 (same_slot _ _ [] [] (one_inside m 9 _ _ r.1 q.1)) in
      ap (λ ws. node V.tuple ws)
      (both_parts (λ e. EachReads s vs e r.0) (λ e. EachReads s us e r.0) (λ ts. ReadsBy s vs ts r.0) (λ ts. ReadsBy s us ts r.0) (vs ≡ us)
      (λ e h k. each-one s vs us e r.0 h k) (λ ts h k. by-one s vs us ts r.0 h k) (bare d) r.2
      (subst (λ ws. ReadsParts (λ e. EachReads s us e ws) (λ ts. ReadsBy s us ts ws) (bare d)) (sym same) q.2))
  reads-one s (node (V.union a) vs) (node (V.union b) us) d m r q =
      let whole = one_inside m 11 _ _ r.1 q.1 in
      let tag = same_number a b (same_content 1 1 _ _ [] [] (same_slot _ _ _ _ whole)) in
      let inner = one_part 2 r.0 q.0 (same_slot _ _ [] [] (same_rest _ _ _ _ whole)) in
      ap (λ c. node (V.union c) vs) tag
      ∙ ap (λ ws. node (V.union b) ws)
      (both_members a b (λ ts. ReadsBy s vs ts (r.0 ∷ []) × FitBy vs ts) (λ ts. ReadsBy s us ts (r.0 ∷ []) × FitBy us ts) (vs ≡ us) tag
      (λ e h k. by-one s vs us (more e end) (r.0 ∷ []) h.0 k.0) (bare d) r.2
      (subst (λ w. FitsMember b (λ ts. ReadsBy s us ts (w ∷ []) × FitBy us ts) (bare d)) (sym inner) q.2))
  reads-one s (node (V.variant a) vs) (node (V.variant b) us) d m r q =
      let x = r.1 in
      let y = q.1 in
      let whole = one_inside m 12 _ _ x.2 y.2 in
      let types = one_part 1 x.0 y.0 (same_slot _ _ _ _ whole) in
      let inner = one_part 2 x.1 y.1 (same_slot _ _ [] [] (same_rest _ _ _ _ whole)) in
      let same : a ≡ b = message-injective a b x.3.shows.is_type y.3.shows.is_type (sym x.3.shows.is ∙ types ∙ y.3.shows.is) in
      ap (λ c. node (V.variant c) vs) same
      ∙ ap (λ ws. node (V.variant b) ws)
      (by-one s vs us (more a end) (x.1 ∷ []) x.4 (subst (λ w. ReadsBy s us (more a end) (w ∷ [])) (sym inner) (subst (λ c. ReadsBy s us (more c end) (y.1 ∷ [])) (sym same) y.4)))
  reads-one s (node k vs) (node j us) d m r q =
      let same : rank k ≡ rank j = mark_ranked s k vs d m r ∙ sym (mark_ranked s j us d m q) in
      absurd (omega (arith, same))

  each-one : (s : ExtMeaning) (vs us : V.Values) (e : Typ) (ws : List Value) → EachReads s vs e ws → EachReads s us e ws → vs ≡ us
  each-one s end end e ws r q = refl
  each-one s end (more u us) e [] r q = absurd q
  each-one s end (more u us) e (w ∷ ws) r q = absurd (cc)
  each-one s (more v vs) us e [] r q = absurd r
  each-one s (more v vs) end e (w ∷ ws) r q = absurd (cc)
  each-one s (more v vs) (more u us) e (w ∷ ws) r q =
      let first = reads-one s v u e w r.0 q.0 in
      let others = each-one s vs us e ws r.1 q.1 in
      λ i. more (first i) (others i)

  by-one : (s : ExtMeaning) (vs us : V.Values) (ts : Roses Kind) (ws : List Value) → ReadsBy s vs ts ws → ReadsBy s us ts ws → vs ≡ us
  by-one s end end ts ws r q = refl
  by-one s end (more u us) end ws r q = absurd q
  by-one s end (more u us) (more d ds) [] r q = absurd q
  by-one s end (more u us) (more d ds) (w ∷ ws) r q = let none = r.1 in absurd (cc)
  by-one s (more v vs) us end ws r q = absurd r
  by-one s (more v vs) us (more d ds) [] r q = absurd r
  by-one s (more v vs) end (more d ds) (w ∷ ws) r q = let none = q.1 in absurd (cc)
  by-one s (more v vs) (more u us) (more d ds) (w ∷ ws) r q =
      let first = reads-one s v u d w r.0 q.0 in
      let others = by-one s vs us ds ws r.1 q.1 in
      λ i. more (first i) (others i)
