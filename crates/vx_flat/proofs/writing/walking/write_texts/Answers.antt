use Rattle.std.proofs.Common.{◌≡◌, ◌+◌, ◌∷◌, [], List, subst, map, drop, length, string_bytes}
use Rattle.std.proofs.lemmas.Result.{err_from_is_err_and}
use Rattle.vx_flat.specs.declared.builder.piece.LinkKind.TheVariants as link
use Rattle.vx_flat.specs.Building.{with_rest}
use Rattle.vx_flat.specs.Walking.{IsCut}
use Rattle.vx_flat.specs.Pieces.{Piece, links_piece, text_piece}
use Rattle.vx_flat.proofs.Walking.{Walked, cut_more, walked_first, walked_more, walked_cut, texts_more}
use Rattle.vx_flat.proofs.writing.walking.write_texts.Goals as goal

pub returns-in_err-write_links-clause-cut : goal.returns-in_err-write_links-clause-cut
returns-in_err-write_links-clause-cut c =
    let q = err_from_is_err_and c.from_residual.result c.from_residual.ensures.1 in
    let xs = c.args.texts.now in
    rw (q.1, q.2) (cut_more (with_rest c.args.builder.now (links_piece link.Text (length xs) ∷ []))
    (map text_piece (map string_bytes xs)) c.in_err-write_links.field-0.0 c.in_err-write_links.ensures.cut)

pub loop-text-init : goal.loop-text-init
loop-text-init c =
    walked_first c.args.builder.now c.write_links.new.builder (links_piece link.Text (length c.args.texts.now))
    (map text_piece (map string_bytes c.args.texts.now)) c.in_ok-write_links.ensures.written

pub write_text-requires : goal.write_text-requires
write_text-requires c = c.loop-text.invariant.works

pub loop-text-preserved : goal.loop-text-preserved
loop-text-preserved c =
    let xs = c.args.texts.now in
    let i = c.loop-text.text-index in
    let b = c.loop-text.builder in
    let x = c.text-item.result in
    let all = with_rest c.args.builder.now (links_piece link.Text (length xs) ∷ map text_piece (map string_bytes xs)) in
    let left = subst (λ (ps : List Piece). Walked b ps all) (texts_more xs i x c.loop-text-test.true c.text-item.is) c.loop-text.invariant in
    let written = subst (λ t. c.write_text.new.builder ≡ with_rest b (text_piece t ∷ [])) c.as_str.ensures.value c.in_ok-write_text.ensures.written in
    walked_more b c.write_text.new.builder (text_piece (string_bytes x) ∷ []) (map text_piece (map string_bytes (drop (i + 1) xs))) all left written

pub returns-in_err-write_text-clause-cut : goal.returns-in_err-write_text-clause-cut
returns-in_err-write_text-clause-cut c =
    let q = err_from_is_err_and c.from_residual-in_err-write_text.result c.from_residual-in_err-write_text.ensures.1 in
    let e = c.in_err-write_text.field-0.0 in
    let xs = c.args.texts.now in
    let i = c.loop-text.text-index in
    let b = c.loop-text.builder in
    let x = c.text-item.result in
    let all = with_rest c.args.builder.now (links_piece link.Text (length xs) ∷ map text_piece (map string_bytes xs)) in
    let left = subst (λ (ps : List Piece). Walked b ps all) (texts_more xs i x c.loop-text-test.true c.text-item.is) c.loop-text.invariant in
    let cut = subst (λ t. IsCut (with_rest b (text_piece t ∷ [])) e) c.as_str.ensures.value c.in_err-write_text.ensures.cut in
    rw (q.1, q.2) (walked_cut b (text_piece (string_bytes x) ∷ []) (map text_piece (map string_bytes (drop (i + 1) xs))) all e left cut)
