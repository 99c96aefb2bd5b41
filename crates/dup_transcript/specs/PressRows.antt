-- A worked example: one event page, whose title changes while it is rendered.
use Rattle.std.specs.Prelude.{◌≡◌, [], ◌∷◌, Some, None, codes}
use Rattle.std.specs.Ordering.{nat_cmp}
use Rattle.std.specs.FinMap as fin
use Rattle.dup_names.specs.Words.{Word}
use Rattle.dup_names.specs.declared.object.Obj.{Obj}
use Rattle.dup_names.specs.declared.object.Item.TheVariants as item
use Rattle.dup_template.specs.declared.value.Value.TheVariants as seen
use Rattle.dup_template.specs.declared.site.Parts.{Parts}
use Rattle.dup_template.specs.declared.site.PageRule.TheVariants.{Family}
use Rattle.dup_template.specs.declared.statement.Statement.TheVariants as s
use Rattle.dup_model.specs.declared.edit.Edit.TheVariants as edit
use Rattle.dup_model.specs.Commits.{Commit}
use Rattle.dup_model.specs.Journal.{usual_limits}
use Rattle.dup_machine.specs.World.{World, Work, Slot, Begun, Joined, Ended}
use Rattle.dup_machine.specs.World.Event.{Begin, Join, Finish}
use Rattle.dup_machine.specs.World.Told.{Begins, Kept, Stale, Unasked, Joins, Finished}
use Rattle.dup_machine.specs.Works.{first_work}
use Rattle.dup_machine.specs.Press.{put_from}
use Rattle.dup_machine.specs.Run.{step}

abbrev pub events_site : Parts
events_site = record {
  kinds = record { name = codes "event"; fields = codes "title" ∷ [] } ∷ [];
  templates =
      record {
        name = codes "event_page";
        kind = Some (codes "event");
        body = s.Say (codes "<h1>") ∷ (s.Field (codes "title") ∷ (s.Say (codes "</h1>") ∷ []));
      } ∷ [];
  pages = Family (codes "/event") (codes "event_page") ∷ [];
}

abbrev pub title : Word → Commit
title w = edit.Put (codes "event") (codes "e1") ((codes "title", w) ∷ []) ∷ []

abbrev pub page : Obj
page = record { template = 0; key = Some (codes "e1") }

-- two commits came, and this work is open
abbrev pub working : Work → fin.FinMap nat_cmp Slot → World
working work slots = record {
  commits = title (codes "A") ∷ (title (codes "B") ∷ []);
  target = None;
  work = Some work;
  log = [];
  nodes = fin.empty;
  slots = slots;
  replies = [];
}

-- the page was handed at this version, and is brought back to a work at version 2
abbrev pub brought_back : fin.FinMap nat_cmp Slot → Word → Work → World
brought_back slots key work =
    put_from events_site 1 (Some (record {
      obj = record { template = 0; key = Some key };
      version = 1;
    })) (working work slots)

abbrev pub one_done : Work
one_done = record (first_work 2) { done = page ∷ []; expanded = 1 }

abbrev pub all_looked : Work
all_looked = record one_done { looked = page ∷ []; once = page ∷ []; joined = 1 }

pub record PressRow (slots : fin.FinMap nat_cmp Slot) : Type 0 where
  pub same : (step events_site usual_limits (working (first_work 2) slots) Begin).replies ≡ Begins
      (Begun.Same 2) ∷ []
  pub moved : (step events_site usual_limits (working (first_work 1) slots) Begin).replies ≡ Begins
      (Begun.Opened 2 1) ∷ []
  pub stale : (brought_back slots (codes "e1") (first_work 2)).replies ≡ Stale (item.Field 0 (codes "e1") 0)
      (seen.Text (codes "A")) (seen.Text (codes "B")) ∷ []
  pub kept : (brought_back slots (codes "e1") (first_work 1)).replies ≡ Kept page 0 ∷ []
  pub unasked : (brought_back slots (codes "e1") one_done).replies ≡ Unasked page ∷ []
  pub waiting : (step events_site usual_limits (working (first_work 2) slots) Finish).replies ≡ Finished
      (Ended.Waiting 1) ∷ []
  pub join_waiting : (step events_site usual_limits (working (first_work 2) slots) Join).replies ≡ Joins
      (Joined.Waiting 1) ∷ []
  pub unjoined : (step events_site usual_limits (working one_done slots) Finish).replies ≡ Finished
      (Ended.Unjoined 1) ∷ []
  pub joined : (step events_site usual_limits (working one_done slots) Join).replies ≡ Joins (Joined.Level 1)
      ∷ []
  pub done : (step events_site usual_limits (working all_looked slots) Join).replies ≡ Joins Joined.Done ∷ []
  pub report : (step events_site usual_limits (working all_looked slots) Finish).replies
      ≡ Finished (Ended.Report (record { version = 2; expanded = 1; joined = 1; kept = 0 })) ∷ []
