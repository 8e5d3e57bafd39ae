use Rattle.std.proofs.Common.{◌≡◌, IfOk, [], ◌∷◌, ap, ◌∙◌, subst, sym}
use Rattle.vx_array_tree.specs.Sound.{IsSound}
use Rattle.vx_generator.specs.Made.{buffer, long_text, views}
use Rattle.vx_generator.proofs.Sound.{texts_sound}
use Rattle.vx_generator.proofs.Tabled.{texts_made}
use Rattle.vx_generator.proofs.arrays.texts_of.Goals as goal

pub returns-clause-ok : goal.returns-clause-ok
unfolding long_text views
returns-clause-ok c =
    let p : c.in_ok-text.text ≡ buffer long_text 0 = c.in_ok-text.ensures.ok ∙ ap (λ b. buffer b 0) c.in_ok-from_slice.ensures.items in
    let q : c.in_ok-views.views ≡ buffer views 4 = c.in_ok-views.ensures.ok ∙ ap (λ b. buffer b 4) c.in_ok-from_slice-2.ensures.items in
    let r : c.in_ok-buffers.buffers.items ≡ buffer long_text 0 ∷ [] = c.in_ok-buffers.ensures.items ∙ ap (λ b. b ∷ []) p in
    subst (λ t. IfOk c.try_new.result (λ a. a ≡ t)) (texts_made _ _ r q) c.try_new.ensures.ok

pub returns-clause-err : goal.returns-clause-err
unfolding long_text views
returns-clause-err c =
    let p : c.in_ok-text.text ≡ buffer long_text 0 = c.in_ok-text.ensures.ok ∙ ap (λ b. buffer b 0) c.in_ok-from_slice.ensures.items in
    let q : c.in_ok-views.views ≡ buffer views 4 = c.in_ok-views.ensures.ok ∙ ap (λ b. buffer b 4) c.in_ok-from_slice-2.ensures.items in
    let r : c.in_ok-buffers.buffers.items ≡ buffer long_text 0 ∷ [] = c.in_ok-buffers.ensures.items ∙ ap (λ b. b ∷ []) p in
    c.try_new.ensures.complete (subst IsSound (sym (texts_made _ _ r q)) texts_sound)
