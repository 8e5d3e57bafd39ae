-- No two encodings have one identifier.
use Rattle.std.proofs.Common.{◌≡◌, refl, sym, ap, ◌∙◌, unwrap_or}
use Rattle.vx_array_tree.specs.Encoding.{Encoding}
use Rattle.vx_array_tree.specs.Encoding as E
use Rattle.vx_array_tree.specs.Table.{id_of, encoding_named}

-- An encoding is named by its identifier; foreign nodes have none that names one.
pub named_again : (e : Encoding) → unwrap_or (encoding_named (id_of e)) E.foreign ≡ e
named_again E.null = refl
named_again _ = refl

pub distinct_ids : (e f : Encoding) → id_of e ≡ id_of f → e ≡ f
distinct_ids e f q = sym (named_again e) ∙ ap (λ id. unwrap_or (encoding_named id) E.foreign) q ∙ named_again f
