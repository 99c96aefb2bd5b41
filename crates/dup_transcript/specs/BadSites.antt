-- What is written of a text that is no good site's.
use Rattle.std.specs.Prelude.{[], ◌++◌, codes, Result, Ok, Err}
use Rattle.std.specs.Fmt.{decimal}
use Rattle.dup_names.specs.Lines.{line}
use Rattle.dup_names.specs.Words.{Word}
use Rattle.dup_template.specs.declared.refusal.What.{What}
use Rattle.dup_template.specs.declared.refusal.What.TheVariants.{Kinds, Fields, Templates, Pages, Statements, Nesting}
use Rattle.dup_template.specs.declared.refusal.SiteRefusal.{SiteRefusal}
use Rattle.dup_template.specs.declared.refusal.SiteRefusal.TheVariants as rule
use Rattle.dup_template.specs.declared.refusal.SiteTextRefusal.{SiteTextRefusal}
use Rattle.dup_template.specs.declared.refusal.SiteTextRefusal.TheVariants as refusal
use Rattle.dup_template.specs.declared.site.Parts.{Parts}

abbrev pub what_word : What → Word
what_word Kinds = codes "kinds"
what_word Fields = codes "fields"
what_word Templates = codes "templates"
what_word Pages = codes "pages"
what_word Statements = codes "statements"
what_word Nesting = codes "nesting"

-- a rule that is broken, in words; want of memory is none
abbrev pub rule_text : SiteRefusal → Word
rule_text (rule.Twice name) = codes "twice " ++ name
rule_text (rule.Unknown name) = codes "unknown " ++ name
rule_text (rule.LaterTemplate name) = codes "later " ++ name
rule_text (rule.WrongKind name) = codes "wrong kind " ++ name
rule_text (rule.NoPage name) = codes "no page " ++ name
rule_text (rule.PathClash path) = codes "path clash " ++ path
rule_text (rule.TooMany what) = codes "too many " ++ what_word what
rule_text rule.NoMemory = []

-- a bad line, or a rule that is broken
abbrev pub cause_text : SiteTextRefusal → Word
cause_text (refusal.BadLine number) = codes "line " ++ decimal number
cause_text (refusal.Check why) = rule_text why
cause_text refusal.NoMemory = []

abbrev pub bad_site_text : SiteTextRefusal → Word
bad_site_text why = line (codes "bad site: " ++ cause_text why)

-- the good site that a text gives, or the line that is written in its place
abbrev pub or_cause : Result Parts SiteTextRefusal → Result Parts Word
or_cause (Ok site) = Ok site
or_cause (Err why) = Err (bad_site_text why)
