use Rattle.std.specs.Prelude.{IfOk}
use Rattle.std.proofs.Common.{rules, ◌≡◌, ◌∙◌, ◌+◌, ◌-◌, ◌*◌, ℕ, List, [], ◌∷◌, ◌++◌, take, Option, Ok, Err, refl, sym, ap, subst, arith}
use Rattle.vx_trees.specs.Rose.{node, end, more, roses_of}
use Rattle.vx_proto.specs.Form.{HasForm}
use Rattle.vx_proto.specs.Parts.{entries_in}
use Rattle.vx_proto.specs.Value.{Entry, Value, value_view, message, slots_of}
use Rattle.vx_types.specs.Fits.{Fits, IsVariant, bare}
use Rattle.vx_types.specs.Kind as K
use Rattle.vx_types.specs.Words.{entries}
use Rattle.vx_types.specs.declared.dtype.DType.{DType}
use Rattle.vx_types.specs.Seen.{typ, typs}
use Rattle.vx_types.specs.Typ.{Typ}
use Rattle.vx_types.specs.Value as V
use Rattle.vx_scalars.specs.Seen.{seen}
use Rattle.vx_scalars.specs.declared.value.ScalarValue.{ScalarValue}
use Rattle.vx_scalar_wire.specs.Answers.{GivesEach, GivesRow, GivesValue, lone_member}
use Rattle.vx_scalar_wire.specs.Reading.{ReadsParts, EachReads, ReadsBy}
use Rattle.vx_scalar_wire.specs.ScalarMessage.{scalar_lists}
use Rattle.vx_scalar_wire.proofs.Gathered.{further, done, each_more, fields_more, types_all, tuple_parts, row_parts, scalar_read, variant_read, union_read}
use Rattle.vx_scalar_wire.proofs.Held.{message_name, no_message, no_tag, element, held_form, list_is, message_held, scalar_parts, union_parts}
use Rattle.vx_scalar_wire.specs.Refusing.{IsAt, IsFieldAt, RefusesReadingValue, RefusesReadingScalar, IsPartType}
use Rattle.vx_scalar_wire.proofs.Refused.{large_tag, other_count, refused_type, unfit_scalar, unfit_value, unknown_tag, element_at, field_at, refused_element, refused_member, refused_value, refused_variant}
use Rattle.vx_scalar_wire.proofs.reading.+reading.Goals as goal

pub each_value-value_in-requires : goal.each_value-value_in-requires
each_value-value_in-requires g t c κs within =
    let e = element (value_view c.args.slots.now) (value_view c.in-Some.message.now) c.entries_at-members.result.now c.loop-i.i c.index-members-i.result c.requires.form c.entries_at-members.ensures
    c.loop-i-test.true c.index-members-i.is c.in-Some.ensures in
    (omega arith, (within, (c.requires.call, e.1)))

pub each_value-loop-i-init : goal.each_value-loop-i-init
each_value-loop-i-init g t c = λ s k. ([], refl, subst (λ (vs : List V.Value). EachReads s (roses_of vs) (typ c.args.dtype.now) []) (sym c.new-values.ensures) refl)

pub each_value-loop-i-preserved : goal.each_value-loop-i-preserved
each_value-loop-i-preserved g t c = λ s k.
    let h = c.loop-i.invariant s k in
    let w : Value = value_view c.in-Some.message.now in
    let e = element (value_view c.args.slots.now) w c.entries_at-members.result.now c.loop-i.i c.index-members-i.result c.requires.form c.entries_at-members.ensures c.loop-i-test.true c.index-members-i.is
    c.in-Some.ensures in (
      h.0 ++ w ∷ [],
      further c.entries_at-members.result.now c.loop-i.i c.index-members-i.result w h.0 c.loop-i-test.true c.index-members-i.is e.0 h.1,
      subst (λ (vs : List V.Value). EachReads s (roses_of vs) (typ c.args.dtype.now) (h.0 ++ w ∷ [])) (sym c.in_ok-push.ensures.ok)
          (each_more s c.loop-i.values (seen c.in_ok-value_in.field-0) (typ c.args.dtype.now) h.0 w h.2 (c.in_ok-value_in.ensures.read s k)),
    )

pub each_value-returns : goal.each_value-returns
each_value-returns g t c = record {
  read = λ s k.
      let h = c.loop-i.invariant s k in
      let m : Value = value_view c.args.slots.now in (
        h.0,
        list_is m c.requires.form ∙ ap (λ (es : List Entry). es ∷ []) (sym c.entries_at-members.ensures ∙ sym (done c.entries_at-members.result.now c.loop-i.i h.0 c.loop-i-test.false h.1)),
        h.2,
      );
}

pub field_values-value_in-requires : goal.field_values-value_in-requires
field_values-value_in-requires g t c κs within =
    let e = element (value_view c.args.slots.now) (value_view c.in-Some.message.now) c.entries_at-members.result.now c.loop-i.i c.index-members-i.result c.requires.form c.entries_at-members.ensures
    c.loop-i-test.true c.index-members-i.is c.in-Some.ensures in
    (omega arith, (within, (c.requires.call, e.1)))

pub field_values-loop-i-init : goal.field_values-loop-i-init
field_values-loop-i-init g t c = λ s k. ([], refl, subst (λ (vs : List V.Value). ReadsBy s (roses_of vs) end []) (sym c.new-values.ensures) (refl, refl))

pub field_values-loop-i-preserved : goal.field_values-loop-i-preserved
field_values-loop-i-preserved g t c = λ s k.
    let h = c.loop-i.invariant s k in
    let w : Value = value_view c.in-Some.message.now in
    let ds = c.as_slice-dtypes.result.now in
    let e = element (value_view c.args.slots.now) w c.entries_at-members.result.now c.loop-i.i c.index-members-i.result c.requires.form c.entries_at-members.ensures c.loop-i-test.true c.index-members-i.is
    c.in-Some.ensures in (
      h.0 ++ w ∷ [],
      further c.entries_at-members.result.now c.loop-i.i c.index-members-i.result w h.0 c.loop-i-test.true c.index-members-i.is e.0 h.1,
      subst (λ (vs : List V.Value). ReadsBy s (roses_of vs) (roses_of (typs (take (c.loop-i.i + 1) ds))) (h.0 ++ w ∷ [])) (sym c.in_ok-push.ensures.ok)
          (fields_more s c.loop-i.values (seen c.in_ok-value_in.field-0) ds c.loop-i.i c.index-dtypes-i.result h.0 w (omega arith) c.index-dtypes-i.is h.2 (c.in_ok-value_in.ensures.read s k)),
    )

pub field_values-returns : goal.field_values-returns
field_values-returns g t c = record {
  read = λ s k.
      let h = c.loop-i.invariant s k in
      let m : Value = value_view c.args.slots.now in
      let all : typs (take c.loop-i.i c.as_slice-dtypes.result.now) ≡ c.args.fields.now.types =
      types_all c.as_slice-dtypes.result.now c.loop-i.i (omega arith) ∙ c.as_slice-dtypes.ensures ∙ c.fields.ensures in (
        h.0,
        list_is m c.requires.form ∙ ap (λ (es : List Entry). es ∷ []) (sym c.entries_at-members.ensures ∙ sym (done c.entries_at-members.result.now c.loop-i.i h.0 c.loop-i-test.false h.1)),
        subst (λ (ts : List Typ). ReadsBy s (roses_of c.loop-i.values) (roses_of ts) h.0) all h.2,
      );
}

pub list_value-returns : goal.list_value-returns
list_value-returns g t c = record {
  read = λ s k.
      let h = c.in_ok-values.ensures.read s k in (
        h.0,
        ap (λ (v : Value). lone_member 9 (message (slots_of v))) h.1,
        subst (λ (d : Typ). ReadsParts (λ e. EachReads s (roses_of c.in_ok-values.values) e h.0) (λ ts. ReadsBy s (roses_of c.in_ok-values.values) ts h.0) d) c.bare_dtype.ensures h.2,
      );
}

pub message_value-list_value-requires : goal.message_value-list_value-requires
message_value-list_value-requires g t c κs within =
    (omega arith, (within, (c.requires.call, held_form 9 16 (value_view c.args.slots.now) refl (subst (λ (k : ℕ). HasForm scalar_lists 15 (lone_member k (message (slots_of (value_view c.args.slots.now))))) c.in-9.is c.requires.form))))

pub message_value-union_value-requires : goal.message_value-union_value-requires
message_value-union_value-requires g t c κs within =
    (omega arith, (within, (c.requires.call, held_form 11 17 (value_view c.args.slots.now) refl (subst (λ (k : ℕ). HasForm scalar_lists 15 (lone_member k (message (slots_of (value_view c.args.slots.now))))) c.in-11.is c.requires.form))))

pub message_value-variant_value-requires : goal.message_value-variant_value-requires
message_value-variant_value-requires g t c κs within =
    (omega arith, (within, (c.requires.call, held_form 12 14 (value_view c.args.slots.now) refl (subst (λ (k : ℕ). HasForm scalar_lists 15 (lone_member k (message (slots_of (value_view c.args.slots.now))))) c.in-12.is c.requires.form))))

pub parts_of-returns-in-List : goal.parts_of-returns-in-List
parts_of-returns-in-List g t c = record {
  read = λ s k.
      tuple_parts s c.each_value.result (2 * c.args.left + 2) (value_view c.args.slots.now) (typ c.get.result.now) c.in-List.element (typ c.args.dtype.now) (node (K.list c.in-List.field-1) (more c.in-List.element end))
      (ap typ c.in-List.is) c.get.ensures.same (λ Each By q. q) (λ i. refl) (c.each_value.ensures.read s k);
}

pub parts_of-returns-in-FixedSizeList : goal.parts_of-returns-in-FixedSizeList
parts_of-returns-in-FixedSizeList g t c = record {
  read = λ s k.
      tuple_parts s c.each_value-in-FixedSizeList.result (2 * c.args.left + 2) (value_view c.args.slots.now) (typ c.get-in-FixedSizeList.result.now) c.in-FixedSizeList.element (typ c.args.dtype.now)
      (node (K.fixed_size_list c.in-FixedSizeList.field-1 c.in-FixedSizeList.field-2) (more c.in-FixedSizeList.element end)) (ap typ c.in-FixedSizeList.is) c.get-in-FixedSizeList.ensures.same (λ Each By q. q) (λ i. refl)
      (c.each_value-in-FixedSizeList.ensures.read s k);
}

pub parts_of-returns-in_ok-entries-in-Map : goal.parts_of-returns-in_ok-entries-in-Map
parts_of-returns-in_ok-entries-in-Map g t c = record {
  read = λ s k.
      tuple_parts s c.each_value-in-Map.result (2 * c.args.left + 2) (value_view c.args.slots.now) (typ c.in_ok-entries-in-Map.entries) (entries c.in-Map.map) (typ c.args.dtype.now)
      (node (K.map c.in-Map.map.keys_sorted c.in-Map.field-1) (more c.in-Map.map.key (more c.in-Map.map.value end))) (ap typ c.in-Map.is) (subst (λ r. IfOk r (λ d. typ d ≡ entries c.in-Map.map)) c.in_ok-entries-in-Map.ensures.same c.entries_dtype.ensures.ok) (λ Each By q. q) (λ i. refl)
      (c.each_value-in-Map.ensures.read s k);
}

pub parts_of-returns-in-Struct : goal.parts_of-returns-in-Struct
parts_of-returns-in-Struct g t c = record {
  read = λ s k.
      row_parts s c.field_values.result (2 * c.args.left + 2) (value_view c.args.slots.now) c.in-Struct.fields.names c.in-Struct.field-1 (roses_of c.in-Struct.fields.types) (typ c.args.dtype.now) (ap typ c.in-Struct.is)
      (c.field_values.ensures.read s k);
}

pub scalar_in-type_in-requires-clause-form : goal.scalar_in-type_in-requires-clause-form
scalar_in-type_in-requires-clause-form g t c =
    (scalar_parts (value_view c.args.slots.now) (value_view c.in-Some.type_slots.now) (value_view c.in-Some-message_at.value_slots.now) c.requires.form c.in-Some.ensures c.in-Some-message_at.ensures).1

pub scalar_in-value_in-requires : goal.scalar_in-value_in-requires
scalar_in-value_in-requires g t c κs within =
    let p = scalar_parts (value_view c.args.slots.now) (value_view c.in-Some.type_slots.now) (value_view c.in-Some-message_at.value_slots.now) c.requires.form c.in-Some.ensures c.in-Some-message_at.ensures in
    (omega arith, (within, (c.requires.call, p.2)))

pub union_value-value_in-requires : goal.union_value-value_in-requires
union_value-value_in-requires g t c κs within =
    let p = union_parts (value_view c.args.slots.now) (value_view c.in-Some-message_at.message.now) c.in-Some.number c.requires.form c.in-Some.ensures c.in-Some-message_at.ensures in
    (omega arith, (within, (c.requires.call, p.1)))

pub union_value-returns-in_ok-new-in-Ok : goal.union_value-returns-in_ok-new-in-Ok
union_value-returns-in_ok-new-in-Ok g t c = record {
  read = λ s k.
      let m : Value = value_view c.args.slots.now in
      let w : Value = value_view c.in-Some-message_at.message.now in
      let v = seen c.in_ok-value.value in
      let d = typ c.in_ok-dtype.dtype.now in
      let p = union_parts m w c.in-Some.number c.requires.form c.in-Some.ensures c.in-Some-message_at.ensures in
      let fit : Fits v d = subst (λ (x : Option ScalarValue). Fits (seen x) d) c.as_ref.ensures.value c.in-Ok.ensures.ok in
      union_read s m w c.in-Some.number v c.in_ok-new-in-Ok.field-0 d (typ c.args.dtype.now) (typ c.bare_dtype.result.now) c.in-Union.variants.names c.in-Union.variants.ids c.in-Union.field-1
      (roses_of c.in-Union.variants.types) c.in_ok-new-in-Ok.ensures.ok c.bare_dtype.ensures (ap typ c.in-Union.is) c.in_ok-dtype.ensures.found p.0 (c.in_ok-value.ensures.read s k) fit;
}

pub value_in-message_value-requires : goal.value_in-message_value-requires
value_in-message_value-requires g t c κs within =
    let held = message_held (value_view c.args.slots.now) c.in-Some.entry.now c.in-Message.parts c.deref-in-Message.result.now c.in-Some.ensures c.in-Message.is c.deref-in-Message.ensures.value in
    (omega arith, (within, (c.requires.call, subst (λ (m : Value). HasForm scalar_lists 15 m) held c.requires.form)))

pub value_in-returns-in-Message : goal.value_in-returns-in-Message
value_in-returns-in-Message g t c = record {
  read = λ s k.
      let held = message_held (value_view c.args.slots.now) c.in-Some.entry.now c.in-Message.parts c.deref-in-Message.result.now c.in-Some.ensures c.in-Message.is c.deref-in-Message.ensures.value in
      let twice : 2 * (c.args.left - 1) + 2 ≡ 2 * c.args.left = omega arith in
      subst (λ (m : Value). GivesValue (λ x. seen x) c.message_value.result s (2 * c.args.left) (typ c.args.dtype.now) m) (sym held)
      (subst (λ (n : ℕ). GivesValue (λ x. seen x) c.message_value.result s n (typ c.args.dtype.now) (lone_member c.in-Some.entry.now.0 (message (slots_of (value_view c.deref-in-Message.result.now))))) twice
      (c.message_value.ensures.read s k));
}

pub variant_value-returns : goal.variant_value-returns
variant_value-returns g t c = record {
  read = λ s k.
      variant_read s (value_view c.args.slots.now) c.in_ok-scalar.scalar c.in_ok-new.field-0 (typ c.args.dtype.now) c.in_ok-new.ensures.ok
      (subst (λ (d : Typ). IsVariant d) c.bare_dtype.ensures (subst (λ (d : DType). IsVariant (typ d)) (sym c.in-Variant.is) tt)) (c.in_ok-scalar.ensures.read s k);
}

pub each_value-returns-in_err-value_in : goal.each_value-returns-in_err-value_in
each_value-returns-in_err-value_in g t c = record {
  read = λ s k.
      let l : Value = value_view c.args.slots.now in
      let w : Value = value_view c.in-Some.message.now in
      let e = element l w c.entries_at-members.result.now c.loop-i.i c.index-members-i.result c.requires.form c.entries_at-members.ensures c.loop-i-test.true c.index-members-i.is c.in-Some.ensures in
      let at : IsAt (entries_in l 0) c.loop-i.i (1, message (slots_of w)) =
      subst (λ (es : List Entry). IsAt es c.loop-i.i (1, message (slots_of w))) c.entries_at-members.ensures
      (element_at c.entries_at-members.result.now c.loop-i.i c.index-members-i.result (1, message (slots_of w)) c.loop-i-test.true c.index-members-i.is e.0) in
      let h : GivesEach (Err c.in_err-value_in.field-0.0) s (2 * c.args.left + 2) (typ c.args.dtype.now) l =
      (λ d parts. refused_element c.in_err-value_in.field-0.0 s (2 * c.args.left) d (typ c.args.dtype.now) l w c.loop-i.i at (parts c.loop-i.i) (c.in_err-value_in.ensures.read s k)) in
      search rules;
}

pub variant_value-returns-in_err-scalar : goal.variant_value-returns-in_err-scalar
variant_value-returns-in_err-scalar g t c = record {
  read = λ s k.
      let v = subst (λ (d : Typ). IsVariant d) c.bare_dtype.ensures (subst (λ (d : DType). IsVariant (typ d)) (sym c.in-Variant.is) tt) in
      let h : RefusesReadingValue c.in_err-scalar.field-0.0 s (2 * c.args.left + 2) (typ c.args.dtype.now) (lone_member 12 (message (slots_of (value_view c.args.slots.now)))) =
      refused_variant c.in_err-scalar.field-0.0 s (2 * c.args.left) (typ c.args.dtype.now) (value_view c.args.slots.now) v (c.in_err-scalar.ensures.read s k) in
      search rules;
}

pub field_values-returns-then-members-dtypes : goal.field_values-returns-then-members-dtypes
field_values-returns-then-members-dtypes g t c = record {
  read = λ s k.
      other_count s (2 * c.args.left + 2) (value_view c.args.slots.now) c.entries_at-members.result.now c.as_slice-dtypes.result.now c.args.fields.now.types c.entries_at-members.ensures
      (c.as_slice-dtypes.ensures ∙ c.fields.ensures) c.if-members-dtypes.true;
}

pub field_values-returns-in_err-value_in : goal.field_values-returns-in_err-value_in
field_values-returns-in_err-value_in g t c = record {
  read = λ s k.
      let l : Value = value_view c.args.slots.now in
      let w : Value = value_view c.in-Some.message.now in
      let ts = c.args.fields.now.types in
      let e = element l w c.entries_at-members.result.now c.loop-i.i c.index-members-i.result c.requires.form c.entries_at-members.ensures c.loop-i-test.true c.index-members-i.is c.in-Some.ensures in
      let at : IsAt (entries_in l 0) c.loop-i.i (1, message (slots_of w)) =
      subst (λ (es : List Entry). IsAt es c.loop-i.i (1, message (slots_of w))) c.entries_at-members.ensures
      (element_at c.entries_at-members.result.now c.loop-i.i c.index-members-i.result (1, message (slots_of w)) c.loop-i-test.true c.index-members-i.is e.0) in
      let field : IsFieldAt (roses_of ts) c.loop-i.i (typ c.index-dtypes-i.result) =
      subst (λ (us : List Typ). IsFieldAt (roses_of us) c.loop-i.i (typ c.index-dtypes-i.result)) (c.as_slice-dtypes.ensures ∙ c.fields.ensures)
      (field_at c.as_slice-dtypes.result.now c.loop-i.i c.index-dtypes-i.result (omega arith) c.index-dtypes-i.is) in
      let h : GivesRow (Err c.in_err-value_in.field-0.0) s (2 * c.args.left + 2) (roses_of ts) l =
      (λ d ns n is. refused_element c.in_err-value_in.field-0.0 s (2 * c.args.left) d (typ c.index-dtypes-i.result) l w c.loop-i.i at
      (subst (λ (z : Typ). IsPartType z c.loop-i.i (typ c.index-dtypes-i.result)) (sym is) field) (c.in_err-value_in.ensures.read s k)) in
      search rules;
}

pub each_value-returns-in_default : goal.each_value-returns-in_default
each_value-returns-in_default g t c = record {
  read = λ s k.
      absurd (no_message (value_view c.args.slots.now) c.entries_at-members.result.now c.loop-i.i c.index-members-i.result c.requires.form c.entries_at-members.ensures c.loop-i-test.true c.index-members-i.is
      c.in_default.ensures);
}

pub field_values-returns-in_default : goal.field_values-returns-in_default
field_values-returns-in_default g t c = record {
  read = λ s k.
      absurd (no_message (value_view c.args.slots.now) c.entries_at-members.result.now c.loop-i.i c.index-members-i.result c.requires.form c.entries_at-members.ensures c.loop-i-test.true c.index-members-i.is
      c.in_default.ensures);
}

pub message_value-returns-in_default : goal.message_value-returns-in_default
message_value-returns-in_default g t c = record {
  read = λ s k.
      absurd (message_name c.args.number (value_view c.args.slots.now) c.requires.form (λ e. absurd (omega (arith, e))) (λ e. absurd (omega (arith, e))) (λ e. absurd (omega (arith, e))));
}

pub union_value-returns-in_default-number_at : goal.union_value-returns-in_default-number_at
union_value-returns-in_default-number_at g t c = record { read = λ s k. absurd (no_tag (value_view c.args.slots.now) c.requires.form c.in_default-number_at.ensures) }

pub union_value-returns-then-number-gt255 : goal.union_value-returns-then-number-gt255
union_value-returns-then-number-gt255 g t c = record {
  read = λ s k.
      let u = c.in-Union.variants in
      let stored : bare (typ c.args.dtype.now) ≡ node (K.union u.names u.ids c.in-Union.field-1) (roses_of u.types) = sym c.bare_dtype.ensures ∙ ap typ c.in-Union.is in
      large_tag s (2 * c.args.left + 2) (typ c.args.dtype.now) (value_view c.args.slots.now) c.in-Some.number u.names u.ids c.in-Union.field-1 (roses_of u.types) stored c.in-Some.ensures (omega arith);
}

pub union_value-returns-in_err-dtype : goal.union_value-returns-in_err-dtype
union_value-returns-in_err-dtype g t c = record {
  read = λ s k.
      let u = c.in-Union.variants in
      let stored : bare (typ c.args.dtype.now) ≡ node (K.union u.names u.ids c.in-Union.field-1) (roses_of u.types) = sym c.bare_dtype.ensures ∙ ap typ c.in-Union.is in
      let h : RefusesReadingValue c.in_err-dtype.field-0.0 s (2 * c.args.left + 2) (typ c.args.dtype.now) (lone_member 11 (message (slots_of (value_view c.args.slots.now)))) =
      unknown_tag c.in_err-dtype.field-0.0 s (2 * c.args.left + 2) (typ c.args.dtype.now) (value_view c.args.slots.now) c.in-Some.number u.names u.ids c.in-Union.field-1 (roses_of u.types) stored
      c.in-Some.ensures c.in_err-dtype.ensures.none in
      search rules;
}

pub union_value-returns-in_err-value : goal.union_value-returns-in_err-value
union_value-returns-in_err-value g t c = record {
  read = λ s k.
      let u = c.in-Union.variants in
      let stored : bare (typ c.args.dtype.now) ≡ node (K.union u.names u.ids c.in-Union.field-1) (roses_of u.types) = sym c.bare_dtype.ensures ∙ ap typ c.in-Union.is in
      let l : Value = value_view c.args.slots.now in
      let w : Value = value_view c.in-Some-message_at.message.now in
      let p = union_parts l w c.in-Some.number c.requires.form c.in-Some.ensures c.in-Some-message_at.ensures in
      let h : RefusesReadingValue c.in_err-value.field-0.0 s (2 * c.args.left + 2) (typ c.args.dtype.now) (lone_member 11 (message (slots_of l))) =
      refused_member c.in_err-value.field-0.0 s (2 * c.args.left) (typ c.args.dtype.now) (typ c.in_ok-dtype.dtype.now) l w c.in-Some.number u.names u.ids c.in-Union.field-1 (roses_of u.types) stored
      c.in_ok-dtype.ensures.found p.0 (c.in_err-value.ensures.read s k) in
      search rules;
}

pub union_value-returns-in-Err : goal.union_value-returns-in-Err
union_value-returns-in-Err g t c = record {
  read = λ s k.
      let u = c.in-Union.variants in
      let stored : bare (typ c.args.dtype.now) ≡ node (K.union u.names u.ids c.in-Union.field-1) (roses_of u.types) = sym c.bare_dtype.ensures ∙ ap typ c.in-Union.is in
      let l : Value = value_view c.args.slots.now in
      let w : Value = value_view c.in-Some-message_at.message.now in
      let p = union_parts l w c.in-Some.number c.requires.form c.in-Some.ensures c.in-Some-message_at.ensures in
      let v = seen c.in_ok-value.value in
      let f = typ c.in_ok-dtype.dtype.now in
      let unfit : Fits v f → ⊥ = subst (λ (x : Option ScalarValue). Fits (seen x) f → ⊥) c.as_ref.ensures.value c.in-Err.ensures.err.1 in
      unfit_value s (2 * c.args.left + 2) (typ c.args.dtype.now) l w c.in-Some.number f v u.names u.ids c.in-Union.field-1 (roses_of u.types) stored p.0 c.in_ok-dtype.ensures.found
      (c.in_ok-value.ensures.read s k) unfit;
}

pub scalar_in-returns-in_err-dtype : goal.scalar_in-returns-in_err-dtype
scalar_in-returns-in_err-dtype g t c = record {
  read = λ s k.
      let l : Value = value_view c.args.slots.now in
      let d : Value = value_view c.in-Some.type_slots.now in
      let h : RefusesReadingScalar c.in_err-dtype.field-0.0 s (2 * c.args.left) l = refused_type c.in_err-dtype.field-0.0 s (2 * c.args.left) l d c.in-Some.ensures (c.in_err-dtype.ensures.cause s k) in
      search rules;
}

pub scalar_in-returns-in_err-value : goal.scalar_in-returns-in_err-value
scalar_in-returns-in_err-value g t c = record {
  read = λ s k.
      let l : Value = value_view c.args.slots.now in
      let d : Value = value_view c.in-Some.type_slots.now in
      let w : Value = value_view c.in-Some-message_at.value_slots.now in
      let p = scalar_parts l d w c.requires.form c.in-Some.ensures c.in-Some-message_at.ensures in
      let h : RefusesReadingScalar c.in_err-value.field-0.0 s (2 * c.args.left) l =
      refused_value c.in_err-value.field-0.0 s (2 * c.args.left) l d w (typ c.in_ok-dtype.dtype) p.0 (k d (Ok c.in_ok-dtype.dtype) c.in_ok-dtype.ensures.read) (c.in_err-value.ensures.read s k) in
      search rules;
}

pub scalar_in-returns-in-Err : goal.scalar_in-returns-in-Err
scalar_in-returns-in-Err g t c = record {
  read = λ s k.
      let l : Value = value_view c.args.slots.now in
      let d : Value = value_view c.in-Some.type_slots.now in
      let w : Value = value_view c.in-Some-message_at.value_slots.now in
      let p = scalar_parts l d w c.requires.form c.in-Some.ensures c.in-Some-message_at.ensures in
      unfit_scalar s (2 * c.args.left) l d w (typ c.in_ok-dtype.dtype) (seen c.in_ok-value.value) p.0 (k d (Ok c.in_ok-dtype.dtype) c.in_ok-dtype.ensures.read) (c.in_ok-value.ensures.read s k)
      c.in-Err.ensures.err.1;
}

pub scalar_in-returns-in-Ok : goal.scalar_in-returns-in-Ok
scalar_in-returns-in-Ok g t c = record {
  read = λ s k.
      let d : Value = value_view c.in-Some.type_slots.now in
      let w : Value = value_view c.in-Some-message_at.value_slots.now in
      let p = scalar_parts (value_view c.args.slots.now) d w c.requires.form c.in-Some.ensures c.in-Some-message_at.ensures in
      scalar_read s (value_view c.args.slots.now) d w c.in-Ok.scalar (typ c.in_ok-dtype.dtype) (seen c.in_ok-value.value) c.in-Ok.ensures.ok p.0
      (k d (Ok c.in_ok-dtype.dtype) c.in_ok-dtype.ensures.read) (c.in_ok-value.ensures.read s k) c.in-Ok.ensures.fits;
}
