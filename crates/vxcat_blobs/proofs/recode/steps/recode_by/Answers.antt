use Rattle.std.proofs.Common.{refl, sym, ◌∙◌}
use Rattle.vxcat_blobs.specs.Recode.{readers_by}
use Rattle.vxcat_blobs.proofs.Sessions.{allowing_session, same_session}
use Rattle.vxcat_blobs.proofs.recode.steps.recode_by.Goals as goal

pub recode_under-requires : goal.recode_under-requires
recode_under-requires g c =
    allowing_session _ _ c.args.session c.allow_unknown.new.self c.args.words.now.options.revised c.args.words.now.options.unknown c.requires.arrays c.requires.readers
    c.allow_unknown.ensures.readers c.allow_unknown.ensures.unknown c.if-words.true

pub recode_under-requires-2 : goal.recode_under-requires-2
recode_under-requires-2 g c =
    same_session _ _ c.args.session c.args.session.arrays c.args.session.ext c.args.words.now.options.revised c.args.words.now.options.unknown refl refl c.requires.arrays
    (c.requires.readers ∙ (λ k. readers_by (sym c.if-words.false k)))
