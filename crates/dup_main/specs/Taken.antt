-- What a render's command makes of the commits so far.
use Rattle.std.specs.Prelude.{◌≡◌, ℕ, List}
use Rattle.dup_names.specs.Words.{Word}
use Rattle.dup_template.specs.declared.site.Parts.{Parts}
use Rattle.dup_transcript.specs.Commands.{Command}
use Rattle.dup_model.specs.Commits.{Commit}
use Rattle.dup_transcript.specs.RenderedPages.{accepted, render_answer}
use Rattle.dup_model.specs.Versions.{content}
use Rattle.dup_records.specs.JournalSizes.{IsSizeOf}
use Rattle.dup_main.specs.declared.render_lines.Rendering.{Rendering}

-- a render has taken these commits
pub record HasTaken (site : Parts) (commits : List Commit) (r : Rendering) : Type 0 where
  pub shows : r.content ≡ content site commits
  pub counts : IsSizeOf r.size commits

-- what is taken after the command, and what the command is answered
abbrev pub Takes : Rendering → Rendering → ℕ → Command → Word → Type 0
Takes old new number command text =
    (site : Parts) (commits : List Commit) → HasTaken site commits old
    → HasTaken site (accepted site commits command) new
    × (text ≡ render_answer site commits number command)
