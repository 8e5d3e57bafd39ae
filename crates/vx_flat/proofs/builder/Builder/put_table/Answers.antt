use Rattle.std.proofs.Common.{◌+◌, ◌*◌, ◌≡◌, ◌++◌, ◌∷◌, [], ap, sym, subst, ◌∙◌, arith, length, refl, List}
use Rattle.std.specs.Prelude.{if◌then◌else◌}
use Rattle.vx_flat.specs.declared.writing.block.BlockOffsets.{BlockOffsets}
use Rattle.vx_flat.specs.Building.{Built, with_piece, entry_slots, failing, IsTooLong}
use Rattle.vx_flat.specs.BuilderView.{built, begun}
use Rattle.vx_flat.specs.FieldTables.{align, field_table_bytes, le_bytes, entry_bytes}
use Rattle.vx_flat.specs.FieldTables as form
use Rattle.vx_flat.proofs.Entering.{length_cells}
use Rattle.vx_flat.specs.Layout.{block_bytes, cells_bytes}
use Rattle.vx_flat.specs.Linking.{loose_block, cells_of}
use Rattle.vx_flat.specs.Pieces.{Piece, table_piece}
use Rattle.vx_flat.specs.BlockOffsets.{offsets, table_offsets, known_at}
use Rattle.vx_flat.proofs.Added.{Adds, built_is, opens, end_is, composed, intern_table, too_long}
use Rattle.vx_flat.proofs.Chain.{starts}
use Rattle.vx_flat.proofs.builder.Builder.put_table.Goals as goal

-- what was appended to nothing
alone : {A : Type 0} (new old x y : List A) → new ≡ old ++ x → old ≡ [] → x ≡ y → new ≡ y
alone new old x y h e is = h ∙ ((λ i. e i ++ x) ∙ is)

pub returns-then-offsets-gt-MAX_MESSAGE-clause-refused : goal.returns-then-offsets-gt-MAX_MESSAGE-clause-refused
returns-then-offsets-gt-MAX_MESSAGE-clause-refused c =
    let n = c.self.inside in
    let es = c.args.fields.now in
    let cs = cells_of es [] in
    let q : Piece = table_piece es in
    let start = c.next_start-start.ensures.value ∙ ap (λ d. align 8 (length (begun d))) c.deref.ensures.value in
    let distances = alone c.push_parts.new.distances.items c.clear.new.self.items (entry_bytes (form.distances 4 cs)) (entry_bytes (form.distances 4 cs))
    c.in_ok-end.ensures.distances c.clear.ensures.items refl in
    let long : length es ≡ length cs = sym (length_cells es) in
    let fields = alone c.push_field_table.new.out.items c.clear-3.new.self.items
    (le_bytes 2 (4 + 2 * length es) ++ (le_bytes 2 c.in_ok-end.end ++ c.deref-2.result.now)) (field_table_bytes cs)
    c.in_ok-push_field_table.ensures c.clear-3.ensures.items
    (λ i. le_bytes 2 (4 + 2 * long i) ++ (le_bytes 2 (c.in_ok-end.ensures.end i) ++ (c.deref-2.ensures.value ∙ distances) i)) in
    let known = c.find.ensures ∙ ap (λ b. known_at n.known b) (c.deref-3.ensures.value ∙ fields) in
    let place : c.table_offsets-offsets.result ≡ offsets n.known (align 8 (length (begun n.message.bytes.items))) (loose_block q) =
    c.table_offsets-offsets.ensures.value cs (length_cells es) (sym c.in_ok-end.ensures.end) ∙ (λ i. table_offsets (start i) cs (known i)) in (
      ap failing c.self.view_is,
      subst (λ (b : Built). IsTooLong b (q ∷ [])) c.self.view_is
          (too_long n.message n.known n.shares n.failed q c.table_offsets-offsets.result c.self.invariant.0 place (omega (arith, c.if-offsets-gt-MAX_MESSAGE.true))),
    )

adds : (c : goal.In_default) → Adds c.self.inside.message c.self.inside.known c.self.inside.shares (table_piece c.args.fields.now) c.table_offsets-offsets.result c.deref-8.result.now c.push_entry_slots.new.slots.items c.add.new.self c.intern.new.self
adds c =
    let n = c.self.inside in
    let m = n.message.bytes.items in
    let es = c.args.fields.now in
    let cs = cells_of es [] in
    let q : Piece = table_piece es in
    let s = c.table_offsets-offsets.result in
    let start = c.next_start-start.ensures.value ∙ ap (λ d. align 8 (length (begun d))) c.deref.ensures.value in
    let distances = alone c.push_parts.new.distances.items c.clear.new.self.items (entry_bytes (form.distances 4 cs)) (entry_bytes (form.distances 4 cs))
    c.in_ok-end.ensures.distances c.clear.ensures.items refl in
    let long : length es ≡ length cs = sym (length_cells es) in
    let fields = alone c.push_field_table.new.out.items c.clear-3.new.self.items
    (le_bytes 2 (4 + 2 * length es) ++ (le_bytes 2 c.in_ok-end.end ++ c.deref-2.result.now)) (field_table_bytes cs)
    c.in_ok-push_field_table.ensures c.clear-3.ensures.items
    (λ i. le_bytes 2 (4 + 2 * long i) ++ (le_bytes 2 (c.in_ok-end.ensures.end i) ++ (c.deref-2.ensures.value ∙ distances) i)) in
    let known = c.find.ensures ∙ ap (λ b. known_at n.known b) (c.deref-3.ensures.value ∙ fields) in
    let own = alone c.push_parts.new.own.items c.clear-2.new.self.items (cells_bytes [] 0 4 cs) (cells_bytes [] 0 4 cs)
    c.in_ok-end.ensures.own c.clear-2.ensures.items refl in
    let place : s ≡ offsets n.known (align 8 (length (begun m))) (loose_block q) =
    c.table_offsets-offsets.ensures.value cs (length_cells es) (sym c.in_ok-end.ensures.end) ∙ (λ i. table_offsets (start i) cs (known i)) in
    record {
      place = place;
      block_is = c.deref-8.ensures.value
          ∙ composed c.push_table.new.out.items c.push_front.new.out.items c.clear-4.new.self.items c.deref-4.result.now m
          (block_bytes [] s (loose_block q)) c.next_start-start.result s.start
          (c.in_ok-push_table.ensures.table cs (length_cells es) (c.deref-5.ensures.value ∙ fields) (c.deref-6.ensures.value ∙ own))
          c.in_ok-push_front.ensures c.clear-4.ensures.items c.deref-4.ensures.value
          (start ∙ (sym (starts n.known (align 8 (length (begun m))) (loose_block q)) ∙ sym (ap (λ (s : BlockOffsets). s.start) place)));
      links_are = alone c.push_entry_slots.new.slots.items c.clear-5.new.self.items (entry_slots n.message.count s.target 0 4 es) (entry_slots n.message.count s.target 0 4 es)
          c.in_ok-push_entry_slots.ensures c.clear-5.ensures.items refl;
      bytes = c.in_default.ensures.bytes;
      count = c.in_default.ensures.count;
      left = c.in_default.ensures.left;
      waits = c.in_default.ensures.waits;
      interned = c.in_ok-intern.ensures.interned
          ∙ (ap (λ b. if b then n.known ++ (c.deref-7.result.now, s.fields) ∷ [] else n.known) c.is_shared-interns.ensures.value
          ∙ intern_table n.shares n.known s es c.deref-7.result.now (c.deref-7.ensures.value ∙ fields));
    }

pub invariant_of-self-in_default : goal.invariant_of-self-in_default
invariant_of-self-in_default c =
    let i = c.self.inside in
    let q : Piece = table_piece c.args.fields.now in
    let h = adds c in
    let e = end_is i.message c.add.new.self i.known c.intern.new.self i.shares i.failed q c.table_offsets-offsets.result c.deref-8.result.now c.push_entry_slots.new.slots.items c.self.invariant.0 h in (
      opens i.message c.add.new.self i.known c.intern.new.self i.shares i.failed q c.table_offsets-offsets.result c.deref-8.result.now c.push_entry_slots.new.slots.items c.self.invariant.0 h,
      omega (arith, e, c.if-offsets-gt-MAX_MESSAGE.false),
    )

pub returns-clause-written : goal.returns-clause-written
returns-clause-written c =
    let i = c.self.inside in
    let q : Piece = table_piece c.args.fields.now in
    ap (λ f. built c.add.new.self c.intern.new.self i.shares f) c.if-self.false
    ∙ (built_is i.message c.add.new.self i.known c.intern.new.self i.shares i.failed q c.table_offsets-offsets.result c.deref-8.result.now c.push_entry_slots.new.slots.items c.self.invariant.0 (adds c)
    ∙ ap (λ (b : Built). with_piece b q) c.self.view_is)

pub returns-clause-fits : goal.returns-clause-fits
returns-clause-fits c = λ _.
    let i = c.self.inside in
    let q : Piece = table_piece c.args.fields.now in
    let e = end_is i.message c.add.new.self i.known c.intern.new.self i.shares i.failed q c.table_offsets-offsets.result c.deref-8.result.now c.push_entry_slots.new.slots.items c.self.invariant.0 (adds c) in
    omega (arith, e, c.if-offsets-gt-MAX_MESSAGE.false)
