-- What the check of a site establishes of each of its contents. The law above: `good_sites_law`.
use Rattle.dup_template.specs.declared.site.Parts.{Parts}
use Rattle.dup_template.specs.Good.{IsGood}
use Rattle.std.specs.Prelude.{List}
use Rattle.dup_model.specs.Commits.{Commit}
use Rattle.dup_model.specs.Content.{Content, IsOf}
use Rattle.dup_model.specs.Versions.{IsHistory, content}
use Rattle.dup_model.specs.Embeddings.{EmbedsEarlier}
use Rattle.dup_model.specs.Jobs.{JobsFit}

-- a template embeds earlier templates alone
abbrev pub GoodEmbedsEarlier : Type 0
GoodEmbedsEarlier = (site : Parts) (c : Content) → IsGood site → IsOf site c → EmbedsEarlier c

-- a good site has this content's frame and bodies
abbrev pub IsGoodContent : Content → Type 0
IsGoodContent c = (p : Parts) × IsGood p × IsOf p c

-- so it is for any content of a history
abbrev pub GoodVersions : Type 0
GoodVersions = (site : Parts) (commits : List Commit) → IsGood site → IsHistory site commits →
    IsGoodContent (content site commits)

-- in each of them a template embeds earlier templates alone
abbrev pub HistoriesEmbedEarlier : Parts → Type 0
HistoriesEmbedEarlier site = (commits : List Commit) → IsHistory site commits →
    EmbedsEarlier (content site commits)

abbrev pub GoodHistoriesEmbedEarlier : Type 0
GoodHistoriesEmbedEarlier = (site : Parts) → IsGood site → HistoriesEmbedEarlier site

-- what is embedded and what is a page can be expanded
abbrev pub GoodJobsFit : Type 0
GoodJobsFit = (site : Parts) (c : Content) → IsGood site → IsOf site c → JobsFit c
