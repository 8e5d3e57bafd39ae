-- From what the steps of the command `make` ensure to how it ends.
use Rattle.std.proofs.Common.{◌≡◌, ◌⊎◌, inl, inr, refl, sym, subst, arith}
use Rattle.vxcat_store.specs.declared.status.Status.{Status}
use Rattle.vxcat_store.specs.declared.status.Status.TheVariants.{Done, OutOfMemory, NoCommand, LoadFault, SaveFault, WriteFault, BadType, BadIds, BadExpression, Refused}
use Rattle.vxcat_blobs.specs.MakeCommand.{AreFilesOf, EndsMake, KeepsAllOthers, Make, MadeFiles, table_of}
use Rattle.vxcat_blobs.specs.MakeViews.{StopsSomewhere}
use Rattle.vxcat_store.specs.Statuses.{RefusesSave}
use Rattle.vxcat_store.specs.RunState.{HasNoFault, Run, run_of}
use Rattle.vxcat_store.specs.SinkState.{SinkState}
use Rattle.vxcat_store.specs.Status.{status_number}
use Rattle.vxcat_store.specs.StoreState.{LoadsNothing, StoreState}
use Rattle.vxcat_store.proofs.Laws.{keeps_same, untouched}

-- A run that ends before its saves.
pub memory_ends : (status : Status) (line : Make) (before : StoreState) (out : SinkState) → status ≡ OutOfMemory → EndsMake status line (run_of before before out out)
memory_ends status line before out is = subst (λ (s : Status). EndsMake s line (run_of before before out out)) (sym is) (inl (record { loaded = record { asked = refl; load_faults = refl }; untouched = untouched before before out refl refl }))

-- A run that ends at a save.
pub save_ends : (status : Status) (line : Make) (before after : StoreState) (out : SinkState) (files : MadeFiles) → AreFilesOf (table_of line) files → StopsSomewhere line before after files
    → LoadsNothing before after → KeepsAllOthers line before after → RefusesSave status before after → EndsMake status line (run_of before after out out)
save_ends OutOfMemory line before after out files made stopped loaded others cause =
    inr (record { loaded = loaded; files = files; are_made = made; output = stopped.0; stopped = stopped.1; others = others; unprinted = keeps_same out.written })
save_ends SaveFault line before after out files made stopped loaded others cause =
    (cause, record { loaded = loaded; files = files; are_made = made; output = stopped.0; stopped = stopped.1; others = others; unprinted = keeps_same out.written })
save_ends Done line before after out files made stopped loaded others cause = absurd cause
save_ends NoCommand line before after out files made stopped loaded others cause = absurd cause
save_ends BadExpression line before after out files made stopped loaded others cause = absurd cause
save_ends LoadFault line before after out files made stopped loaded others cause = absurd cause
save_ends WriteFault line before after out files made stopped loaded others cause = absurd cause
save_ends BadType line before after out files made stopped loaded others cause = absurd cause
save_ends BadIds line before after out files made stopped loaded others cause = absurd cause
save_ends (Refused r) line before after out files made stopped loaded others cause = absurd cause

-- It does not end with the number of no command.
pub make_not_two : (status : Status) (line : Make) (run : Run) → EndsMake status line run → status_number status ≡ 2 → ⊥
make_not_two Done line run ends is = absurd (omega (arith, is))
make_not_two OutOfMemory line run ends is = absurd (omega (arith, is))
make_not_two SaveFault line run ends is = absurd (omega (arith, is))
make_not_two WriteFault line run ends is = absurd (omega (arith, is))
make_not_two status line run ends is = absurd ends

-- Where no fault occurs, it ends well or with allocation failure.
pub make_complete : (status : Status) (line : Make) (run : Run) → HasNoFault run → EndsMake status line run → (status_number status ≡ 0) ⊎ (status_number status ≡ 1)
make_complete Done line run none ends = inl refl
make_complete OutOfMemory line run none ends = inr refl
make_complete SaveFault line run none ends = absurd (none.saves ends.0)
make_complete WriteFault line run none ends = absurd (none.writes ends.0)
make_complete status line run none ends = absurd ends
