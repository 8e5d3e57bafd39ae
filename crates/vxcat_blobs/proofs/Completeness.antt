-- Where a command can end well and no fault occurs, its status is 0, or 1 for allocation failure.
use Rattle.std.proofs.Common.{◌≡◌, ◌⊎◌, inl, inr, ℕ, Option, Some, None, List, [], get_or, drop, refl, sym, ap, subst, ◌∙◌}
use Rattle.std.specs.Bool.{IsTrue}
use Rattle.std.specs.List.{flat_map}
use Rattle.std.proofs.lemmas.Fmt.{decimal_injective}
use Rattle.vxcat_store.specs.declared.status.Status.{Status}
use Rattle.vxcat_store.specs.declared.status.Status.TheVariants.{Done, OutOfMemory, NoCommand, LoadFault, SaveFault, WriteFault, BadType, BadIds, BadExpression, Refused}
use Rattle.vxcat_blobs.specs.ExprCommand.{CanEndExpr, EndsExpr, EndsUnread, InvokesExpr, IsReadAsExpression}
use Rattle.vxcat_blobs.specs.Options.{Setting, setting_words, settings_of}
use Rattle.vxcat_blobs.specs.Recode.{AreInputs, CanEndRecode, CanRecodeInputs, EndsRecode, EndsRefused, InvokesRecode, Loaded, Recode, StandsIfNamed}
use Rattle.vxcat_store.specs.RunState.{HasNoFault, Run}
use Rattle.vxcat_store.specs.Status.{status_number}
use Rattle.vxcat_store.specs.StoreState.{StoreState}
use Rattle.vxcat_store.proofs.Laws.{stands_same}
use Rattle.vxcat_blobs.proofs.OptionFronts.{settings_same}

word : (a b : List (List ℕ)) (k : ℕ) → a ≡ b → get_or a k [] ≡ get_or b k []
word a b k same = ap (λ (l : List (List ℕ)). get_or l k []) same

-- Words invoke one line of `recode` at most.
pub line_same : (words : List (List ℕ)) (a b : Recode) → InvokesRecode words a → InvokesRecode words b → a ≡ b
line_same words a b first second =
    let same = sym first.words_are ∙ second.words_are in
    let rests : flat_map setting_words first.given ≡ flat_map setting_words second.given = ap (λ (l : List (List ℕ)). drop 7 l) same in
    let given = settings_same first.given second.given first.are_options.in_range second.are_options.in_range rests in
    let settings : a.settings ≡ b.settings = first.settings_are ∙ ap (λ (l : List Setting). settings_of l) given ∙ sym second.settings_are in
    let types : a.type_file ≡ b.type_file = word _ _ 1 same in
    let blobs : a.blob_file ≡ b.blob_file = word _ _ 2 same in
    let lens : a.len ≡ b.len = decimal_injective a.len b.len first.fits second.fits (word _ _ 3 same) in
    let ids : a.id_file ≡ b.id_file = word _ _ 4 same in
    let outs : a.out ≡ b.out = word _ _ 5 same in
    let out_ids : a.out_ids ≡ b.out_ids = word _ _ 6 same in
    λ k. record { type_file = types k; blob_file = blobs k; len = lens k; id_file = ids k; out = outs k; out_ids = out_ids k; settings = settings k }

named_same : (store : StoreState) (name a b : Option (List ℕ)) → IsTrue store.tells → StandsIfNamed store name a → StandsIfNamed store name b → a ≡ b
named_same store None None None told first second = refl
named_same store None (Some a) b told first second = absurd first
named_same store None None (Some b) told first second = absurd second
named_same store (Some name) (Some a) (Some b) told first second = ap (λ (l : List ℕ). Some l) (stands_same store name a b told first second)
named_same store (Some name) None b told first second = absurd first
named_same store (Some name) (Some a) None told first second = absurd second

-- A store tells at most one set of inputs of a line.
inputs_same : (line : Recode) (store : StoreState) (a b : Loaded) → IsTrue store.tells → AreInputs line store a → AreInputs line store b → a ≡ b
inputs_same line store a b told first second =
    let types = stands_same store line.type_file a.type_bytes b.type_bytes told first.type_stands second.type_stands in
    let blobs = stands_same store line.blob_file a.blob b.blob told first.blob_stands second.blob_stands in
    let ids = stands_same store line.id_file a.id_bytes b.id_bytes told first.ids_stand second.ids_stand in
    let allowed = named_same store line.settings.allow a.allow_bytes b.allow_bytes told first.allow_stands second.allow_stands in
    λ k. record { type_bytes = types k; blob = blobs k; id_bytes = ids k; allow_bytes = allowed k }

never_refused : (status : Status) (line : Recode) (run : Run) → CanEndRecode line run.before → EndsRefused status line run → ⊥
never_refused status line run can ends =
    let same = inputs_same line run.before can.loaded ends.loaded can.tells can.are_inputs ends.are_inputs in
    ends.cannot (subst (λ (i : Loaded). CanRecodeInputs line i) same can.can_recode)

pub recode_complete : (status : Status) (line : Recode) (run : Run) → CanEndRecode line run.before → HasNoFault run → EndsRecode status line run → (status_number status ≡ 0) ⊎ (status_number status ≡ 1)
recode_complete Done line run can none ends = inl refl
recode_complete OutOfMemory line run can none ends = inr refl
recode_complete NoCommand line run can none ends = absurd ends
recode_complete BadExpression line run can none ends = absurd ends
recode_complete LoadFault line run can none ends = absurd (none.loads ends.0)
recode_complete SaveFault line run can none ends = absurd (none.saves ends.0)
recode_complete WriteFault line run can none ends = absurd (none.writes ends.0)
recode_complete BadType line run can none ends = absurd (never_refused BadType line run can ends)
recode_complete BadIds line run can none ends = absurd (never_refused BadIds line run can ends)
recode_complete (Refused refusal) line run can none ends = absurd (never_refused (Refused refusal) line run can ends)

never_unread : (file : List ℕ) (run : Run) → CanEndExpr file run.before → EndsUnread file run → ⊥
never_unread file run can ends =
    let same = stands_same run.before file can.bytes ends.bytes can.tells can.stands ends.stands in
    ends.none can.expr (subst (λ (b : List ℕ). IsReadAsExpression b can.expr) same can.read)

pub expr_complete : (status : Status) (file : List ℕ) (run : Run) → CanEndExpr file run.before → HasNoFault run → EndsExpr status file run → (status_number status ≡ 0) ⊎ (status_number status ≡ 1)
expr_complete Done file run can none ends = inl refl
expr_complete OutOfMemory file run can none ends = inr refl
expr_complete LoadFault file run can none ends = absurd (none.loads ends.0)
expr_complete WriteFault file run can none ends = absurd (none.writes ends.0)
expr_complete BadExpression file run can none ends = absurd (never_unread file run can ends)
expr_complete status file run can none ends = absurd ends

-- Words invoke one file of `expr` at most.
pub file_same : (words : List (List ℕ)) (a b : List ℕ) → InvokesExpr words a → InvokesExpr words b → a ≡ b
file_same words a b first second = word _ _ 1 (sym first ∙ second)
