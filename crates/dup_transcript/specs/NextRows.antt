-- A worked example: the site of events that link to the next one, and which pages go out together.
use Rattle.std.specs.Prelude.{◌≡◌, List, [], ◌∷◌, Some, None, codes}
use Rattle.dup_names.specs.Words.{Word, Path}
use Rattle.dup_names.specs.declared.object.Obj.{Obj}
use Rattle.dup_names.specs.declared.value.Look.{Look}
use Rattle.dup_template.specs.declared.site.Parts.{Parts}
use Rattle.dup_template.specs.declared.site.PageRule.TheVariants.{Family}
use Rattle.dup_template.specs.declared.statement.Statement.TheVariants as s
use Rattle.dup_model.specs.declared.edit.Edit.TheVariants.{Put, Remove}
use Rattle.dup_model.specs.Commits.{Commit}
use Rattle.dup_model.specs.Versions.{content}
use Rattle.dup_model.specs.Pages.{Target, target}
use Rattle.dup_model.specs.Editions.{Bundle, edition, bundle_of}
use Rattle.dup_model.specs.Bundles.{bundle}

abbrev pub chain : Parts
chain = record {
  kinds = record { name = codes "event"; fields = codes "title" ∷ (codes "next" ∷ []) } ∷ [];
  templates =
      record {
        name = codes "event_page";
        kind = Some (codes "event");
        body = s.Field (codes "title")
            ∷ (s.Link (codes "event_page") (Some (codes "next")) (s.Say (codes "next") ∷ []) ∷ []);
      } ∷ [];
  pages = Family (codes "/event") (codes "event_page") ∷ [];
}

abbrev pub page_one : Path
page_one = codes "/event/e1"

abbrev pub page_two : Path
page_two = codes "/event/e2"

abbrev pub target_of : List Commit → Target
target_of commits = target (content chain commits)

-- the look of an event's page
abbrev pub look_of : Word → Word → List Path → Look
look_of key bytes links =
    let o : Obj = record { template = 0; key = Some key } in
    record { obj = o; bytes = bytes; uses = (o, bytes) ∷ []; links = links }

-- e1 names e2 as its next one, which comes with the second commit
abbrev pub one_first : Commit
one_first = Put (codes "event") (codes "e1") ((codes "next", codes "e2") ∷ ((codes "title", codes "A") ∷ []))
    ∷ []

abbrev pub then_two : Commit
then_two = Put (codes "event") (codes "e2") ((codes "title", codes "B") ∷ []) ∷ []

abbrev pub one_alone : Bundle
one_alone = bundle_of (target_of (one_first ∷ [])) 1 (one_first ∷ []) (page_one ∷ [])

-- the first page goes out alone, without a link; then it needs the second, which it links to and which the
-- edition lacks: so the second goes out before it
pub record LinkNeedsPageRow : Type 0 where
  pub first : bundle (edition []) (target_of (one_first ∷ [])) ≡ Some (page_one ∷ [])
  pub first_puts : one_alone.puts ≡ record {
    path = page_one;
    version = 1;
    look = look_of (codes "e1") (codes "Anext") [];
  } ∷ []
  pub second : bundle (edition (one_alone ∷ [])) (target_of (one_first ∷ (then_two ∷ [])))
      ≡ Some (page_two ∷ [])

-- e2 names e1 as its next one, and then e1 goes
abbrev pub both : Commit
both =
    Put (codes "event") (codes "e1") ((codes "title", codes "A") ∷ []) ∷
    (Put (codes "event") (codes "e2") ((codes "next", codes "e1") ∷ ((codes "title", codes "B") ∷ [])) ∷ [])

abbrev pub one_goes : Commit
one_goes = Remove (codes "event") (codes "e1") ∷ []

abbrev pub linked_page : Bundle
linked_page = bundle_of (target_of (both ∷ [])) 1 (both ∷ []) (page_one ∷ [])

abbrev pub linking_page : Bundle
linking_page = bundle_of (target_of (both ∷ [])) 1 [] (page_two ∷ [])

abbrev pub last_bundle : Bundle
last_bundle = bundle_of (target_of (both ∷ (one_goes ∷ []))) 2 (one_goes ∷ []) (page_two ∷ [])

abbrev pub vanishing : Bundle
vanishing = bundle_of (target_of (both ∷ (one_goes ∷ []))) 2 [] (page_one ∷ [])

-- the linked page goes out first; when it vanishes, the page that links to it changes in a bundle before
pub record LinkerChangesRow : Type 0 where
  pub first : bundle (edition []) (target_of (both ∷ [])) ≡ Some (page_one ∷ [])
  pub second : bundle (edition (linked_page ∷ [])) (target_of (both ∷ [])) ≡ Some (page_two ∷ [])
  pub second_puts : linking_page.puts ≡ record {
    path = page_two;
    version = 1;
    look = look_of (codes "e2") (codes "B<a href=\"/event/e1\">next</a>") (page_one ∷ []);
  } ∷ []
  pub rest : bundle (edition (linked_page ∷ (linking_page ∷ []))) (target_of (both ∷ [])) ≡ None
  pub before : bundle (edition (linked_page ∷ (linking_page ∷ []))) (target_of (both ∷ (one_goes ∷ [])))
      ≡ Some (page_two ∷ [])
  pub puts : last_bundle.puts ≡ record {
    path = page_two;
    version = 2;
    look = look_of (codes "e2") (codes "Bnext") [];
  } ∷ []
  pub drops : last_bundle.drops ≡ []
  pub last : bundle (edition (linked_page ∷ (linking_page ∷ (last_bundle ∷ []))))
      (target_of (both ∷ (one_goes ∷ []))) ≡ Some (page_one ∷ [])
  pub last_puts : vanishing.puts ≡ []
  pub last_drops : vanishing.drops ≡ page_one ∷ []
