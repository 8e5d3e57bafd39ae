use Rattle.std.proofs.Common.{◌≡◌, ◌+◌, [], ap, sym, ◌∙◌, arith, length, true}
use Rattle.vx_flat.specs.declared.writing.block.BlockOffsets.{BlockOffsets}
use Rattle.vx_flat.specs.Building.{Built, with_piece}
use Rattle.vx_flat.specs.BuilderView.{built, begun}
use Rattle.vx_flat.specs.FieldTables.{align}
use Rattle.vx_flat.specs.Layout.{block_bytes}
use Rattle.vx_flat.specs.Linking.{loose_block}
use Rattle.vx_flat.specs.Pieces.{Piece, elements_piece}
use Rattle.vx_flat.proofs.Added.{Adds, built_is, opens, end_is, composed, intern_elements}
use Rattle.vx_flat.proofs.builder.Builder.elements.Goals as goal

adds : (c : goal.In_ok-add) → Adds c.self.inside.message c.self.inside.known c.self.inside.shares (elements_piece c.args.size c.args.bytes.now) c.plain_offsets-offsets.result c.deref-3.result.now c.clear-2.new.self.items c.add.new.self c.self.inside.known
adds c =
    let m = c.self.inside.message.bytes.items in
    let q : Piece = elements_piece c.args.size c.args.bytes.now in
    let s = c.plain_offsets-offsets.result in
    let start = c.next_start-start.ensures.value ∙ ap (λ d. align 8 (length (begun d))) c.deref.ensures.value in
    let p = align 8 (length (begun m)) in
    let ends : c.next_start-start.result + (4 + length c.args.bytes.now) ≡ p + (4 + length c.args.bytes.now) = omega (arith, start) in
    record {
      place = c.plain_offsets-offsets.ensures.value
          ∙ (λ i. record { start = start i; target = start i; end = ends i; fields = 0; is_own = true });
      block_is = c.deref-3.ensures.value
          ∙ composed c.push_elements.new.out.items c.push_front.new.out.items c.clear.new.self.items c.deref-2.result.now m
          (block_bytes [] s (loose_block q)) c.next_start-start.result s.start
          c.in_ok-push_elements.ensures c.in_ok-push_front.ensures c.clear.ensures.items c.deref-2.ensures.value
          (sym (ap (λ (s : BlockOffsets). s.start) c.plain_offsets-offsets.ensures.value));
      links_are = c.clear-2.ensures.items;
      bytes = c.in_ok-add.ensures.bytes;
      count = c.in_ok-add.ensures.count;
      left = c.in_ok-add.ensures.left;
      waits = c.in_ok-add.ensures.waits;
      interned = intern_elements c.self.inside.shares c.self.inside.known s c.args.size c.args.bytes.now;
    }

pub invariant_of-self-2 : goal.invariant_of-self-2
invariant_of-self-2 c =
    let i = c.self.inside in
    let h = adds c in
    let e = end_is i.message c.add.new.self i.known i.known i.shares i.failed (elements_piece c.args.size c.args.bytes.now) c.plain_offsets-offsets.result c.deref-3.result.now c.clear-2.new.self.items c.self.invariant.0 h in (
      opens i.message c.add.new.self i.known i.known i.shares i.failed (elements_piece c.args.size c.args.bytes.now) c.plain_offsets-offsets.result c.deref-3.result.now c.clear-2.new.self.items c.self.invariant.0 h,
      omega (arith, e, c.if-offsets-gt-MAX_MESSAGE.false),
    )

pub returns-clause-written : goal.returns-clause-written
returns-clause-written c =
    let i = c.self.inside in
    ap (λ f. built c.add.new.self i.known i.shares f) c.if-self.false
    ∙ (built_is i.message c.add.new.self i.known i.known i.shares i.failed (elements_piece c.args.size c.args.bytes.now) c.plain_offsets-offsets.result c.deref-3.result.now c.clear-2.new.self.items c.self.invariant.0 (adds c)
    ∙ ap (λ (b : Built). with_piece b (elements_piece c.args.size c.args.bytes.now)) c.self.view_is)

pub returns-clause-fits : goal.returns-clause-fits
returns-clause-fits c = λ _.
    let i = c.self.inside in
    let e = end_is i.message c.add.new.self i.known i.known i.shares i.failed (elements_piece c.args.size c.args.bytes.now) c.plain_offsets-offsets.result c.deref-3.result.now c.clear-2.new.self.items c.self.invariant.0 (adds c) in
    omega (arith, e, c.if-offsets-gt-MAX_MESSAGE.false)
