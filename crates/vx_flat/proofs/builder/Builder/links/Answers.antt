use Rattle.std.proofs.Common.{◌≡◌, ◌+◌, ◌*◌, ◌++◌, [], ap, sym, ◌∙◌, arith, length, true, subst, ◌∷◌}
use Rattle.vx_flat.specs.declared.writing.block.BlockOffsets.{BlockOffsets}
use Rattle.vx_flat.specs.Building.{Built, with_piece, failing, IsTooLong, element_slots}
use Rattle.vx_flat.specs.BuilderView.{built, begun}
use Rattle.vx_flat.specs.FieldTables.{align}
use Rattle.vx_flat.specs.Layout.{block_bytes}
use Rattle.vx_flat.specs.Linking.{loose_block, firsts}
use Rattle.vx_flat.specs.Pieces.{Piece, links_piece}
use Rattle.vx_flat.specs.BlockOffsets.{offsets}
use Rattle.vx_flat.proofs.Added.{Adds, built_is, opens, end_is, composed, intern_links, too_long}
use Rattle.vx_flat.proofs.Loose.{links_length}
use Rattle.vx_flat.proofs.builder.Builder.links.Goals as goal

pub returns-then-offsets-gt-MAX_MESSAGE-clause-refused : goal.returns-then-offsets-gt-MAX_MESSAGE-clause-refused
returns-then-offsets-gt-MAX_MESSAGE-clause-refused c =
    let i = c.self.inside in
    let q : Piece = links_piece c.args.kind c.args.count in
    let start = c.next_start-start.ensures.value ∙ ap (λ d. align 8 (length (begun d))) c.deref.ensures.value in
    let ends : c.next_start-start.result + (4 + 4 * c.args.count) ≡ align 8 (length (begun i.message.bytes.items)) + (4 + 4 * length (firsts c.args.count [])) = omega (arith, start, links_length c.args.count []) in
    let place : c.plain_offsets-offsets.result ≡ offsets i.known (align 8 (length (begun i.message.bytes.items))) (loose_block q) =
    c.plain_offsets-offsets.ensures.value ∙ (λ k. record { start = start k; target = start k; end = ends k; fields = 0; is_own = true }) in (
      ap failing c.self.view_is,
      subst (λ (b : Built). IsTooLong b (q ∷ [])) c.self.view_is
          (too_long i.message i.known i.shares i.failed q c.plain_offsets-offsets.result c.self.invariant.0 place (omega (arith, c.if-offsets-gt-MAX_MESSAGE.true))),
    )

adds : (c : goal.In_ok-add) → Adds c.self.inside.message c.self.inside.known c.self.inside.shares (links_piece c.args.kind c.args.count) c.plain_offsets-offsets.result c.deref-3.result.now c.push_element_slots.new.slots.items c.add.new.self c.self.inside.known
adds c =
    let m = c.self.inside.message.bytes.items in
    let q : Piece = links_piece c.args.kind c.args.count in
    let s = c.plain_offsets-offsets.result in
    let start = c.next_start-start.ensures.value ∙ ap (λ d. align 8 (length (begun d))) c.deref.ensures.value in
    let p = align 8 (length (begun m)) in
    let ends : c.next_start-start.result + (4 + 4 * c.args.count) ≡ p + (4 + 4 * length (firsts c.args.count [])) = omega (arith, start, links_length c.args.count []) in
    record {
      place = c.plain_offsets-offsets.ensures.value
          ∙ (λ i. record { start = start i; target = start i; end = ends i; fields = 0; is_own = true });
      block_is = c.deref-3.ensures.value
          ∙ composed c.push_links.new.out.items c.push_front.new.out.items c.clear.new.self.items c.deref-2.result.now m
          (block_bytes [] s (loose_block q)) c.next_start-start.result s.start
          c.in_ok-push_links.ensures c.in_ok-push_front.ensures c.clear.ensures.items c.deref-2.ensures.value
          (sym (ap (λ (s : BlockOffsets). s.start) c.plain_offsets-offsets.ensures.value));
      links_are = c.in_ok-push_element_slots.ensures
          ∙ ap (λ x. x ++ element_slots c.self.inside.message.count c.args.kind (s.target + 4) 0 c.args.count) c.clear-2.ensures.items;
      bytes = c.in_ok-add.ensures.bytes;
      count = c.in_ok-add.ensures.count;
      left = c.in_ok-add.ensures.left;
      waits = c.in_ok-add.ensures.waits;
      interned = intern_links c.self.inside.shares c.self.inside.known s c.args.kind c.args.count;
    }

pub invariant_of-self-2 : goal.invariant_of-self-2
invariant_of-self-2 c =
    let i = c.self.inside in
    let h = adds c in
    let e = end_is i.message c.add.new.self i.known i.known i.shares i.failed (links_piece c.args.kind c.args.count) c.plain_offsets-offsets.result c.deref-3.result.now c.push_element_slots.new.slots.items c.self.invariant.0 h in (
      opens i.message c.add.new.self i.known i.known i.shares i.failed (links_piece c.args.kind c.args.count) c.plain_offsets-offsets.result c.deref-3.result.now c.push_element_slots.new.slots.items c.self.invariant.0 h,
      omega (arith, e, c.if-offsets-gt-MAX_MESSAGE.false),
    )

pub returns-clause-written : goal.returns-clause-written
returns-clause-written c =
    let i = c.self.inside in
    ap (λ f. built c.add.new.self i.known i.shares f) c.if-self.false
    ∙ (built_is i.message c.add.new.self i.known i.known i.shares i.failed (links_piece c.args.kind c.args.count) c.plain_offsets-offsets.result c.deref-3.result.now c.push_element_slots.new.slots.items c.self.invariant.0 (adds c)
    ∙ ap (λ (b : Built). with_piece b (links_piece c.args.kind c.args.count)) c.self.view_is)

pub returns-clause-fits : goal.returns-clause-fits
returns-clause-fits c = λ _.
    let i = c.self.inside in
    let e = end_is i.message c.add.new.self i.known i.known i.shares i.failed (links_piece c.args.kind c.args.count) c.plain_offsets-offsets.result c.deref-3.result.now c.push_element_slots.new.slots.items c.self.invariant.0 (adds c) in
    omega (arith, e, c.if-offsets-gt-MAX_MESSAGE.false)
