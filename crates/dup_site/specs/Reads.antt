-- What a site text gives, and what a reading of it answers.
use Rattle.std.specs.Prelude.{◌≡◌, ℕ, Option, Some, None, Result, Ok, Err}
use Rattle.dup_names.specs.Words.{Word}
use Rattle.dup_template.specs.declared.refusal.SiteRefusal.{SiteRefusal}
use Rattle.dup_template.specs.declared.refusal.SiteTextRefusal.{SiteTextRefusal}
use Rattle.dup_template.specs.declared.refusal.SiteTextRefusal.TheVariants.{BadLine, Check, NoMemory}
use Rattle.dup_template.specs.declared.site.Parts.{Parts}
use Rattle.dup_template.specs.Good.{site_fault}
use Rattle.dup_site.specs.Spelling.{text_says}

abbrev pub unless_broken : Parts → Option SiteRefusal → Result Parts SiteTextRefusal
unless_broken parts None = Ok parts
unless_broken parts (Some e) = Err (Check e)

abbrev pub if_said : Result Parts ℕ → Result Parts SiteTextRefusal
if_said (Ok parts) = unless_broken parts (site_fault parts)
if_said (Err n) = Err (BadLine n)

-- the good site that a text says; else its first bad line, or the first rule that its parts break
abbrev pub site_says : Word → Result Parts SiteTextRefusal
site_says text = if_said (text_says text)

-- a reading answers what is due, unless memory runs out
abbrev pub Reads : Result Parts SiteTextRefusal → Result Parts SiteTextRefusal → Type 0
Reads (Ok site) due = due ≡ Ok site
Reads (Err (BadLine n)) due = due ≡ Err (BadLine n)
Reads (Err (Check e)) due = due ≡ Err (Check e)
Reads (Err NoMemory) due = Unit {0}

-- the parts that a text says, or the number of its first bad line, unless memory runs out
abbrev pub Says : Result Parts SiteTextRefusal → Result Parts ℕ → Type 0
Says (Ok parts) said = said ≡ Ok parts
Says (Err (BadLine n)) said = said ≡ Err n
Says (Err (Check e)) said = ⊥
Says (Err NoMemory) said = Unit {0}
