-- From what the steps of a command ensure to how it ends.
use Rattle.std.proofs.Common.{◌≡◌, inl, inr, ℕ, Option, Some, List, refl, sym, ap, subst, ◌∙◌, arith}
use Rattle.std.specs.Bool.{IsTrue}
use Rattle.vx_buffer.specs.Buffer.{Buffer}
use Rattle.vx_buffer.specs.Joined.{joined}
use Rattle.vxcat_blobs.specs.declared.recode.steps.Outputs.{Outputs}
use Rattle.vxcat_store.specs.declared.print.PrintError.{PrintError}
use Rattle.vxcat_store.specs.declared.print.PrintError.TheVariants as print_error
use Rattle.vxcat_store.specs.declared.status.Status.{Status}
use Rattle.vxcat_store.specs.declared.status.Status.TheVariants.{Done, OutOfMemory, NoCommand, LoadFault, SaveFault, WriteFault, BadType, BadIds, BadExpression, Refused}
use Rattle.vxcat_blobs.specs.ExprCommand.{EndsExpr}
use Rattle.vxcat_store.specs.Listing.{listing}
use Rattle.vxcat_blobs.specs.Recode.{AreInputs, AreSaved, CanRecodeInputs, EndsRecode, RefusesInputs, KeepsOthers, Loaded, Recode, SavesInOrder, Work, inputs}
use Rattle.vxcat_store.specs.RunState.{Run, run_of}
use Rattle.vxcat_store.specs.SinkState.{SinkState}
use Rattle.vxcat_store.specs.Status.{status_number}
use Rattle.vxcat_store.specs.StoreState.{AskedOnly, HasRisen, StoreState}
use Rattle.vxcat_store.specs.Written.{AppendsPrefix}
use Rattle.vxcat_blobs.specs.RecodeViews.{AreOutputs}
use Rattle.vxcat_store.specs.Statuses.{RefusesLoad, RefusesSave, print_status}
use Rattle.vxcat_store.proofs.Laws.{keeps_same, refusal_not_two, untouched}

-- A step that changes no file, before one that keeps other names.
pub others_through : (line : Recode) (before mid after : StoreState) → mid.file ≡ before.file → mid.tells ≡ before.tells → KeepsOthers line mid after → KeepsOthers line before after
others_through line before mid after file tells others = record {
  told = others.told ∙ tells;
  files = λ told name not_out not_ids. others.files (subst IsTrue (sym tells) told) name not_out not_ids ∙ ap (λ (f : List ℕ → Option (List ℕ)). f name) file;
}

-- And before saves in their order, of a blob that is this one.
pub order_through : (line : Recode) (before mid after : StoreState) (blob other : List ℕ) → mid.file ≡ before.file → mid.tells ≡ before.tells → blob ≡ other → SavesInOrder line mid after blob → SavesInOrder line before after other
order_through line before mid after blob other file tells same (inl kept) =
    inl (λ told. kept (subst IsTrue (sym tells) told) ∙ ap (λ (f : List ℕ → Option (List ℕ)). f line.out_ids) file)
order_through line before mid after blob other file tells same (inr saved) = inr (λ told. saved told ∙ ap (λ (bytes : List ℕ). Some bytes) same)

-- The outputs that were made stand where what the program holds was saved.
pub saved_of : (line : Recode) (loaded : Loaded) (outputs : Outputs) (after : StoreState) (are : AreOutputs line loaded outputs) → AreSaved line after (joined outputs.buffers) outputs.ids
    → AreSaved line after (joined are.made.buffers) are.made.context.ids
saved_of line loaded outputs after are saved =
    let B : List Buffer → Type 0 = λ z. AreSaved line after (joined z) outputs.ids in
    let I : List (List ℕ) → Type 0 = λ z. AreSaved line after (joined are.made.buffers) z in
    subst I are.holds.ids_are (subst B are.holds.buffers_are saved)

-- The work of a command that holds outputs.
abbrev pub work_of : (line : Recode) (before : StoreState) (loaded : Loaded) (outputs : Outputs) → AreInputs line before loaded → AreOutputs line loaded outputs → Work line before
work_of line before loaded outputs are_inputs are = record { loaded = loaded; made = are.made; are_inputs = are_inputs; is_made = are.is_made }

-- A run that ends at a load.
pub load_ends : (status : Status) (line : Recode) (before after : StoreState) (out : SinkState) → AskedOnly (inputs line) before.asked after.asked → after.tells ≡ before.tells → after.file ≡ before.file → RefusesLoad status before after
    → EndsRecode status line (run_of before after out out)
load_ends OutOfMemory line before after out asked tells file cause = inl (untouched before after out tells file)
load_ends LoadFault line before after out asked tells file cause = (cause, asked, untouched before after out tells file)
load_ends Done line before after out asked tells file cause = absurd cause
load_ends NoCommand line before after out asked tells file cause = absurd cause
load_ends BadExpression line before after out asked tells file cause = absurd cause
load_ends SaveFault line before after out asked tells file cause = absurd cause
load_ends WriteFault line before after out asked tells file cause = absurd cause
load_ends BadType line before after out asked tells file cause = absurd cause
load_ends BadIds line before after out asked tells file cause = absurd cause
load_ends (Refused r) line before after out asked tells file cause = absurd cause

-- A run that ends at a save.
pub save_ends : (status : Status) (line : Recode) (before mid after : StoreState) (out : SinkState) (work : Work line before) → mid.save_faults ≡ before.save_faults → KeepsOthers line before after
    → SavesInOrder line before after (joined work.made.buffers) → RefusesSave status mid after → EndsRecode status line (run_of before after out out)
save_ends OutOfMemory line before mid after out work same others order cause =
    inr (inl (record { work = work; in_order = order; others = others; unprinted = keeps_same out.written }))
save_ends SaveFault line before mid after out work same others order cause = (
  subst (λ (n : ℕ). HasRisen n after.save_faults) same cause,
  record { work = work; in_order = order; others = others; unprinted = keeps_same out.written },
)
save_ends Done line before mid after out work same others order cause = absurd cause
save_ends NoCommand line before mid after out work same others order cause = absurd cause
save_ends BadExpression line before mid after out work same others order cause = absurd cause
save_ends LoadFault line before mid after out work same others order cause = absurd cause
save_ends WriteFault line before mid after out work same others order cause = absurd cause
save_ends BadType line before mid after out work same others order cause = absurd cause
save_ends BadIds line before mid after out work same others order cause = absurd cause
save_ends (Refused r) line before mid after out work same others order cause = absurd cause

-- A run that ends at what it loaded.
pub refused_ends : (status : Status) (line : Recode) (before after : StoreState) (out : SinkState) (loaded : Loaded) → AreInputs line before loaded → RefusesInputs status line loaded
    → (CanRecodeInputs line loaded → status ≡ OutOfMemory) → after.tells ≡ before.tells → after.file ≡ before.file → EndsRecode status line (run_of before after out out)
refused_ends OutOfMemory line before after out loaded are cause complete tells file = inl (untouched before after out tells file)
refused_ends BadType line before after out loaded are cause complete tells file = record {
  loaded = loaded;
  are_inputs = are;
  cause = cause;
  cannot = λ can. (let never = complete can in cc);
  untouched = untouched before after out tells file;
}
refused_ends BadIds line before after out loaded are cause complete tells file = record {
  loaded = loaded;
  are_inputs = are;
  cause = cause;
  cannot = λ can. (let never = complete can in cc);
  untouched = untouched before after out tells file;
}
refused_ends (Refused r) line before after out loaded are cause complete tells file = record {
  loaded = loaded;
  are_inputs = are;
  cause = cause;
  cannot = λ can. (let never = complete can in cc);
  untouched = untouched before after out tells file;
}
refused_ends Done line before after out loaded are cause complete tells file = absurd cause
refused_ends NoCommand line before after out loaded are cause complete tells file = absurd cause
refused_ends BadExpression line before after out loaded are cause complete tells file = absurd cause
refused_ends LoadFault line before after out loaded are cause complete tells file = absurd cause
refused_ends SaveFault line before after out loaded are cause complete tells file = absurd cause
refused_ends WriteFault line before after out loaded are cause complete tells file = absurd cause

-- A run that ends at the listing.
pub print_ends : (error : PrintError) (line : Recode) (before after : StoreState) (out_before out_after : SinkState) (work : Work line before) → AreSaved line after (joined work.made.buffers) work.made.context.ids
    → KeepsOthers line before after → AppendsPrefix out_before.written out_after.written (listing work.made.array line.settings.rows) → (error ≡ print_error.Failed → HasRisen out_before.faults out_after.faults)
    → EndsRecode (print_status error) line (run_of before after out_before out_after)
print_ends print_error.OutOfMemory line before after out_before out_after work saved others prefix fault =
    inr (inr (record { work = work; saved = saved; others = others; printed = prefix }))
print_ends print_error.Failed line before after out_before out_after work saved others prefix fault =
    (fault refl, record { work = work; saved = saved; others = others; printed = prefix })

pub recode_not_two : (status : Status) (line : Recode) (run : Run) → EndsRecode status line run → status_number status ≡ 2 → ⊥
recode_not_two NoCommand line run ends is = ends
recode_not_two BadExpression line run ends is = absurd ends
recode_not_two (Refused r) line run ends is = refusal_not_two r is
recode_not_two Done line run ends is = absurd (omega (arith, is))
recode_not_two OutOfMemory line run ends is = absurd (omega (arith, is))
recode_not_two LoadFault line run ends is = absurd (omega (arith, is))
recode_not_two SaveFault line run ends is = absurd (omega (arith, is))
recode_not_two WriteFault line run ends is = absurd (omega (arith, is))
recode_not_two BadType line run ends is = absurd (omega (arith, is))
recode_not_two BadIds line run ends is = absurd (omega (arith, is))

pub expr_not_two : (status : Status) (file : List ℕ) (run : Run) → EndsExpr status file run → status_number status ≡ 2 → ⊥
expr_not_two Done file run ends is = absurd (omega (arith, is))
expr_not_two OutOfMemory file run ends is = absurd (omega (arith, is))
expr_not_two LoadFault file run ends is = absurd (omega (arith, is))
expr_not_two WriteFault file run ends is = absurd (omega (arith, is))
expr_not_two BadExpression file run ends is = absurd (omega (arith, is))
expr_not_two status file run ends is = absurd ends
