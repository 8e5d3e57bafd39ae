use Rattle.std.proofs.Common.{refl, arith}
use Rattle.vxcat_blobs.specs.Recode.{inputs, if_named}
use Rattle.vxcat_blobs.specs.RecodeViews.{line_of}
use Rattle.vxcat_store.proofs.Laws.{asked_none, asked_more, asked_last}
use Rattle.vxcat_blobs.proofs.recode.steps.load_inputs.Goals as goal

pub returns-in-Err-load-clause-asked : goal.returns-in-Err-load-clause-asked
returns-in-Err-load-clause-asked g c =
    let names = inputs (line_of c.args.words.now) in
    let first = asked_more names _ _ _ _ (asked_none names _) (0, omega arith, refl) c.load.ensures.asked in
    asked_more names _ _ _ _ first (1, omega arith, refl) c.load-2.ensures.asked

pub returns-in-Err-load-2-clause-asked : goal.returns-in-Err-load-2-clause-asked
returns-in-Err-load-2-clause-asked g c =
    let names = inputs (line_of c.args.words.now) in
    let first = asked_more names _ _ _ _ (asked_none names _) (0, omega arith, refl) c.load.ensures.asked in
    let second = asked_more names _ _ _ _ first (1, omega arith, refl) c.load-2.ensures.asked in
    asked_more names _ _ _ _ second (2, omega arith, refl) c.load-3.ensures.asked

pub returns-in-Ok-load_named-clause-asked : goal.returns-in-Ok-load_named-clause-asked
returns-in-Ok-load_named-clause-asked g c =
    let line = line_of c.args.words.now in
    let names = inputs line in
    let first = asked_more names _ _ _ _ (asked_none names _) (0, omega arith, refl) c.load.ensures.asked in
    let second = asked_more names _ _ _ _ first (1, omega arith, refl) c.load-2.ensures.asked in
    let third = asked_more names _ _ _ _ second (2, omega arith, refl) c.load-3.ensures.asked in
    asked_last line.type_file line.blob_file line.id_file (if_named line.settings.allow) _ _ _ third c.load_named.ensures.asked

pub returns-in-Err-load_named-clause-asked : goal.returns-in-Err-load_named-clause-asked
returns-in-Err-load_named-clause-asked g c =
    let line = line_of c.args.words.now in
    let names = inputs line in
    let first = asked_more names _ _ _ _ (asked_none names _) (0, omega arith, refl) c.load.ensures.asked in
    let second = asked_more names _ _ _ _ first (1, omega arith, refl) c.load-2.ensures.asked in
    let third = asked_more names _ _ _ _ second (2, omega arith, refl) c.load-3.ensures.asked in
    asked_last line.type_file line.blob_file line.id_file (if_named line.settings.allow) _ _ _ third c.load_named.ensures.asked
