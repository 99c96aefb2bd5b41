-- A worked example: the site of medals, whose pages share a fragment and so go out together.
use Rattle.std.specs.Prelude.{◌≡◌, [], ◌∷◌, Some, None, codes}
use Rattle.dup_names.specs.Words.{Word, Path}
use Rattle.dup_names.specs.declared.object.Obj.{Obj}
use Rattle.dup_names.specs.declared.value.Look.{Look}
use Rattle.dup_template.specs.declared.site.Parts.{Parts}
use Rattle.dup_template.specs.declared.site.PageRule.TheVariants.{Fixed, Family}
use Rattle.dup_template.specs.declared.statement.Statement.TheVariants as s
use Rattle.dup_model.specs.declared.edit.Edit.TheVariants.{Put}
use Rattle.dup_model.specs.Commits.{Commit}
use Rattle.dup_model.specs.Versions.{content}
use Rattle.dup_model.specs.Pages.{Target, target}
use Rattle.dup_model.specs.Editions.{Bundle, edition, bundle_of}
use Rattle.dup_model.specs.Bundles.{bundle}

abbrev pub medal_site : Parts
medal_site = record {
  kinds = record { name = codes "athlete"; fields = codes "name" ∷ (codes "gold" ∷ []) } ∷ [];
  templates =
      record {
        name = codes "medals";
        kind = None;
        body = s.Say (codes "[")
            ∷ (s.Each (codes "athlete") None None (s.Field (codes "gold") ∷ []) ∷ (s.Say (codes "]") ∷ []));
      } ∷
      (record { name = codes "home"; kind = None; body = s.Embed (codes "medals") None ∷ [] } ∷
      (record {
        name = codes "athlete_page";
        kind = Some (codes "athlete");
        body = s.Field (codes "name") ∷ (s.Embed (codes "medals") None ∷ []);
      } ∷ []));
  pages = Fixed (codes "/") (codes "home") ∷ (Family (codes "/athlete") (codes "athlete_page") ∷ []);
}

abbrev pub home_path : Path
home_path = codes "/"

abbrev pub athlete_path : Path
athlete_path = codes "/athlete/a1"

abbrev pub medals : Obj
medals = record { template = 0; key = None }

abbrev pub home : Obj
home = record { template = 1; key = None }

abbrev pub athlete : Obj
athlete = record { template = 2; key = Some (codes "a1") }

-- both pages show these medals
abbrev pub home_look : Word → Look
home_look shown = record {
  obj = home;
  bytes = shown;
  uses = (medals, shown) ∷ ((home, shown) ∷ []);
  links = [];
}

abbrev pub athlete_look : Word → Word → Look
athlete_look shown bytes =
    record { obj = athlete; bytes = bytes; uses = (medals, shown) ∷ ((athlete, bytes) ∷ []); links = [] }

abbrev pub put_athlete : Word → Word → Commit
put_athlete gold name =
    Put (codes "athlete") (codes "a1") ((codes "gold", gold) ∷ ((codes "name", name) ∷ [])) ∷ []

abbrev pub first : Commit
first = put_athlete (codes "1") (codes "Ann")

abbrev pub second : Commit
second = put_athlete (codes "2") (codes "Anna")

abbrev pub first_target : Target
first_target = target (content medal_site (first ∷ []))

abbrev pub second_target : Target
second_target = target (content medal_site (first ∷ (second ∷ [])))

abbrev pub home_bundle : Bundle
home_bundle = bundle_of first_target 1 (first ∷ []) (home_path ∷ [])

abbrev pub athlete_bundle : Bundle
athlete_bundle = bundle_of first_target 1 [] (athlete_path ∷ [])

abbrev pub shared_bundle : Bundle
shared_bundle = bundle_of second_target 2 (second ∷ []) (home_path ∷ (athlete_path ∷ []))

-- at first each page goes out by itself; once the fragment that both use is published and changes, they go
-- out together
pub record SharedFragmentRow : Type 0 where
  pub first : bundle (edition []) first_target ≡ Some (home_path ∷ [])
  pub second : bundle (edition (home_bundle ∷ [])) first_target ≡ Some (athlete_path ∷ [])
  pub together : bundle (edition (home_bundle ∷ (athlete_bundle ∷ []))) second_target ≡ Some (home_path
      ∷ (athlete_path ∷ []))
  pub puts : shared_bundle.puts ≡
      record { path = home_path; version = 2; look = home_look (codes "[2]") } ∷
      (record { path = athlete_path; version = 2; look = athlete_look (codes "[2]") (codes "Anna[2]") } ∷ [])
