use Rattle.std.proofs.Common.{sym, ◌∙◌}
use Rattle.dup_site.proofs.NamesRead.{read_more}
use Rattle.dup_site.proofs.forms.names.Goals as goal

pub loop-word-preserved : goal.loop-word-preserved
loop-word-preserved c =
    read_more c.args.words.now c.loop-word.word-index _ c.loop-word.names.items c.push.new.self.items c.in-Some.name _ c.loop-word-test.true
    c.loop-word.invariant.0 (sym c.name.ensures ∙ c.in-Some.is) c.in_ok-push.ensures.items c.loop-word.invariant.1
