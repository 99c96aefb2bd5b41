-- What `render` makes of commands: the commits that it accepts, the answers, and the pages of a content.
use Rattle.std.specs.Prelude.{ℕ, ◌+◌, List, [], ◌∷◌, ◌++◌, codes, length, Option, Some, None}
use Rattle.std.specs.Fmt.{decimal}
use Rattle.std.specs.List.{flat_map, fold}
use Rattle.dup_names.specs.Lines.{line}
use Rattle.dup_names.specs.Words.{Word, Path}
use Rattle.dup_names.specs.declared.object.Obj.{Obj}
use Rattle.dup_template.specs.declared.site.Parts.{Parts}
use Rattle.dup_model.specs.Content.{Content}
use Rattle.dup_model.specs.Commits.{Commit, Refusal}
use Rattle.dup_model.specs.Versions.{content}
use Rattle.dup_model.specs.Pages.{pages}
use Rattle.dup_model.specs.Show.{show}
use Rattle.dup_model.specs.Journal.{commit_refusal, unless_refused, usual_limits}
use Rattle.dup_transcript.specs.Texts.{bad_feed_text, bad_line_text, refusal_text}
use Rattle.dup_transcript.specs.Commands.{Command}
use Rattle.dup_transcript.specs.declared.command.Command.TheVariants as command

-- why a commit is refused behind these commits, within the usual limits
abbrev pub refused_now : Parts → List Commit → Commit → Option Refusal
refused_now site commits commit = commit_refusal site usual_limits commits commit

-- the commits after a command: nothing but a commit changes them
abbrev pub accepted : Parts → List Commit → Command → List Commit
accepted site commits (command.Commit commit) = unless_refused commits commit (refused_now site commits commit)
accepted site commits _ = commits

abbrev pub refusal_line : Option Refusal → Word
refusal_line None = []
refusal_line (Some why) = refusal_text why

-- the answer to the command in the line of this number: a refusal is told, an accepted commit writes
-- nothing, and what is no commit is a bad line
abbrev pub render_answer : Parts → List Commit → ℕ → Command → Word
render_answer site commits number (command.Commit commit) = refusal_line (refused_now site commits commit)
render_answer site commits number (command.BadFeed why) = bad_feed_text why
render_answer site commits number command.Blank = []
render_answer site commits number _ = bad_line_text number

-- the answers to commands, behind these commits and so many lines
abbrev pub render_answers : Parts → List Commit → ℕ → List Command → Word
render_answers site commits number [] = []
render_answers site commits number (command ∷ rest) =
    render_answer site commits (number + 1) command
    ++ render_answers site (accepted site commits command) (number + 1) rest

-- the content after commands
abbrev pub last_content : Parts → List Commit → List Command → Content
last_content site commits commands = content site (fold (accepted site) commits commands)

-- a page: its path and its length in a line, and then what its object shows
abbrev pub rendered_page : Content → Path × Obj → Word
rendered_page c page =
    line (codes "page " ++ page.0 ++ codes " " ++ decimal (length (show c page.1))) ++ line (show c page.1)

-- each page, in the order of the paths
abbrev pub rendered_pages : Content → Word
rendered_pages c = flat_map (rendered_page c) (pages c)
