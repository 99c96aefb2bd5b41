-- The worked example of a script, computed.
use Rattle.std.proofs.Common.{◌≡◌, ℕ, zero, suc, ◌+◌, ◌<◌, Bool, true, false, cond, refl, sym, ap, ◌∙◌, subst, List, [], ◌∷◌, ◌++◌, drop, length, arith}
use Rattle.std.specs.Prelude.{Option, Some, None, codes, map, Result}
use Rattle.std.specs.Fmt.{digits}
use Rattle.std.specs.FinMap as fin
use Rattle.std.specs.List.{filter_map, flat_map, fold}
use Rattle.std.specs.Ordering.{is_eq, nat_cmp}
use Rattle.std.proofs.lemmas.List.Sums.{fold-append}
use Rattle.dup_names.specs.Lines.{Reading, line, reading}
use Rattle.dup_names.specs.Order.{text_cmp}
use Rattle.dup_names.specs.Words.{Word, Path}
use Rattle.dup_names.specs.declared.value.Look.{Look}
use Rattle.dup_template.specs.declared.refusal.SiteTextRefusal.{SiteTextRefusal}
use Rattle.dup_template.specs.declared.site.Parts.{Parts}
use Rattle.dup_model.specs.declared.feed_refusal.FeedRefusal.{FeedRefusal}
use Rattle.dup_model.specs.declared.mode.Mode.TheVariants.{Update}
use Rattle.dup_model.specs.Answers.{Answer, Reply, answer, missed, refreshed}
use Rattle.dup_model.specs.Answers.How.{Hit, Miss}
use Rattle.dup_model.specs.Bundles.{bundle}
use Rattle.dup_model.specs.Caches.{Cache, catch_up}
use Rattle.dup_model.specs.Commits.{Commit}
use Rattle.dup_model.specs.Content.{Content}
use Rattle.dup_model.specs.Editions.{Bundle, Page, bundle_of, edition}
use Rattle.dup_model.specs.Embeddings.{EmbedsEarlier}
use Rattle.dup_model.specs.Journal.{usual_limits}
use Rattle.dup_model.specs.Pages.{Target, live, target}
use Rattle.dup_model.specs.Touched.{expanded}
use Rattle.dup_model.specs.Versions.{content, target_content}
use Rattle.dup_model.proofs.Computed.{bundle_listed, bundle_of_listed, entries_empty, entries_target, entries_with, listed_bundle_of, listed_target}
use Rattle.dup_model.proofs.Equations.{marks-Say, marks-Field}
use Rattle.dup_model.proofs.GoodVersions.{good_histories}
use Rattle.dup_model.proofs.Histories.{fits_unless_refused, history_push}
use Rattle.dup_machine.specs.Press.{press_of, with_press}
use Rattle.dup_machine.specs.Presses.{Press, publish_by, publish_step}
use Rattle.dup_machine.specs.Run.{step}
use Rattle.dup_machine.specs.Settle.{AllPublished, counts_of, publishing, settling}
use Rattle.dup_machine.specs.Settle.Settles.{by_work}
use Rattle.dup_machine.specs.Until.{LastTold}
use Rattle.dup_machine.specs.World.{Counts, Event, Told, World, answered, told}
use Rattle.dup_machine.specs.World.Event.{Publish}
use Rattle.dup_machine.specs.World.Ended.{Report}
use Rattle.dup_machine.specs.World.Told.{Committed, Finished, NothingChanged, Published}
use Rattle.dup_machine.proofs.LastReply.{told_once}
use Rattle.dup_machine.proofs.Settling.{settle_reports}
use Rattle.dup_transcript.specs.BadSites.{or_cause}
use Rattle.dup_transcript.specs.Commands.{Command, line_command, of_message}
use Rattle.dup_transcript.specs.Inputs.{script}
use Rattle.dup_transcript.specs.MachinePlays.{MachinePlays, PlaysBy, tells_kept}
use Rattle.dup_transcript.specs.PressRows.{events_site, page, title}
use Rattle.dup_transcript.specs.ScriptRows.{ScriptRow, input, output}
use Rattle.dup_transcript.specs.Texts.{settled_text, told_text}
use Rattle.dup_transcript.specs.Transcript.{DoesSite, PlaysScript}
use Rattle.dup_transcript.specs.Turns.{PlaysFrom, Standing, Turns, first_standing}
use Rattle.dup_transcript.specs.declared.command.Command.TheVariants as command
use Rattle.dup_transcript.specs.declared.task.Task.TheVariants.{Play}
use Rattle.dup_transcript.proofs.MachineAnswers.{starts_ready}
use Rattle.dup_transcript.proofs.MachineTurns.{PutsCache, SettlesTo, first_stands, get_no_node, new_cache, plays_nothing, plays_turn, turns_commit, turns_deliver, turns_evict, turns_get, turns_made, turns_bad, turns_settle, turns_taken}
use Rattle.dup_transcript.proofs.PressRowsComputed.{events_good}

abbrev commit : Commit
commit = title (codes "100m")

abbrev made : Content
made = content events_site (commit ∷ [])

abbrev path : Path
path = codes "/event/e1"

abbrev page_look : Look
page_look = record { obj = page; bytes = codes "<h1>100m</h1>"; uses = (page, codes "<h1>100m</h1>") ∷ []; links = [] }

abbrev shown : Page
shown = record { path = path; version = 1; look = page_look }

abbrev listed : List (Path × Look)
listed = (path, page_look) ∷ []

abbrev made_target : Target
made_target = target made

are_listed : listed_target made ≡ listed
are_listed = simp (marks-Say, marks-Field) refl

entries : fin.entries made_target ≡ listed
entries = entries_target made ∙ are_listed

live_one : live made ≡ page ∷ []
live_one = simp (marks-Say, marks-Field) refl

-- the bundle of the page, and what it makes
abbrev only : Bundle
only = bundle_of made_target 1 (commit ∷ []) (path ∷ [])

abbrev only_listed : Bundle
only_listed = listed_bundle_of listed 1 (commit ∷ []) (path ∷ [])

only_is : only ≡ only_listed
only_is = bundle_of_listed made_target listed entries 1 (commit ∷ []) (path ∷ [])

newest : fin.entries (edition (only ∷ [])) ≡ (path, shown) ∷ []
newest = entries_with [] only only_listed path shown [] only_is refl (entries_empty Page)

goes_out : bundle (edition []) made_target ≡ Some (path ∷ [])
goes_out = bundle_listed made_target listed entries fin.empty [] (entries_empty Page)

none_left : bundle (edition (only ∷ [])) made_target ≡ None
none_left = bundle_listed made_target listed entries (edition (only ∷ [])) ((path, shown) ∷ []) newest

-- the press before and behind the settle
abbrev committed : Press
committed = record { commits = commit ∷ []; target = None; work = None; log = [] }

abbrev worked : Press
worked = record committed { target = Some 1 }

abbrev settled : Press
settled = record worked { log = only ∷ [] }

publishes_one : publish_step events_site (Some 1) worked ≡ (Published 1 1 (length only.puts) (length only.drops), settled)
publishes_one = ap (λ (o : Option (List Path)). publish_by made_target 1 o worked) goes_out

publishes_none : publish_step events_site (Some 1) settled ≡ (NothingChanged, settled)
publishes_none = ap (λ (o : Option (List Path)). publish_by made_target 1 o settled) none_left

abbrev counted : Counts
counted = counts_of None made 1

counts_are : counted ≡ record { version = 1; expanded = 1; joined = 1; kept = 0 }
counts_are = simp live_one refl

embeds : EmbedsEarlier made
embeds = good_histories events_site events_good (commit ∷ []) (history_push events_site [] commit (fits_unless_refused events_site usual_limits [] commit refl) (starts_ready events_site).allowed)

abbrev steps : World → List Event → World
steps w events = fold (step events_site usual_limits) w events

-- a publish, by the press
publish_goes : (w : World) (old new : Press) (reply : Told) → press_of w ≡ old → publish_step events_site old.target old ≡ (reply, new) → steps w (Publish ∷ []) ≡ told reply (with_press new w)
publish_goes w old new reply is gives =
    ap (λ (p : Press). told (publish_step events_site p.target p).0 (with_press (publish_step events_site p.target p).1 w)) is
    ∙ ap (λ (r : Told × Press). told r.0 (with_press r.1 w)) gives

abbrev first_reply : Told
first_reply = Published 1 1 (length only.puts) (length only.drops)

all_published : (w : World) → press_of w ≡ worked → AllPublished events_site usual_limits w 1 × (press_of (steps w (publishing 1)) ≡ settled)
all_published w is =
    let one : steps w (Publish ∷ []) ≡ told first_reply (with_press settled w) = publish_goes w worked settled first_reply is publishes_one in
    let mid : World = told first_reply (with_press settled w) in
    let two : steps w (publishing 1) ≡ told NothingChanged (with_press settled mid) =
    ap (λ (u : World). steps u (Publish ∷ [])) one ∙ publish_goes mid settled settled NothingChanged refl publishes_none in
    (((mid.replies, ap (λ (u : World). u.replies) two), λ i below tells. before one i below tells), ap press_of two)
  where
    before : steps w (Publish ∷ []) ≡ told first_reply (with_press settled w) → (i : ℕ) → i < 1 → LastTold (steps w (publishing i)) NothingChanged → ⊥
    before one zero below tells =
        let e : first_reply ≡ NothingChanged = told_once (steps w (Publish ∷ [])) first_reply NothingChanged (w.replies, ap (λ (u : World). u.replies) one) tells in
        absurd (cc)
    before one (suc i) below tells = absurd (omega (arith, below))

settles : (w : World) → press_of w ≡ committed → fin.get w.slots 0 ≡ None → SettlesTo events_site usual_limits w counted settled
settles w is slot =
    let commits : w.commits ≡ commit ∷ [] = ap (λ (p : Press). p.commits) is in
    let target : w.target ≡ None = ap (λ (p : Press). p.target) is in
    let r = settle_reports events_site usual_limits w (subst (λ (cs : List Commit). EmbedsEarlier (content events_site cs)) (sym commits) embeds) (ap (λ (p : Press). p.work) is) (λ last. absurd (cc)) slot in
    let k : ℕ = length (expanded (target_content events_site w.commits w.target) (content events_site w.commits)) in
    let mid : World = steps w (settling k r.0) in
    let at : press_of mid ≡ worked = press_is mid (r.2.commits ∙ commits) (r.2.target ∙ ap (λ (cs : List Commit). Some (length cs)) commits) r.2.idle (r.2.log ∙ ap (λ (p : Press). p.log) is) in
    let p = all_published mid at in
    let same : counts_of (target_content events_site w.commits w.target) (content events_site w.commits) (length w.commits) ≡ counted =
    (λ i. counts_of (target_content events_site (commits i) (target i)) (content events_site (commits i)) (length (commits i))) in (
      settling k r.0 ++ publishing 1,
      by_work k r.0 1 counted r.1 (subst (λ (c : Counts). LastTold mid (Finished (Report c))) same r.2.report) p.0,
      ap press_of (fold-append (step events_site usual_limits) w (settling k r.0) (publishing 1)) ∙ p.1,
    )
  where
    press_is : (v : World) → v.commits ≡ commit ∷ [] → v.target ≡ Some 1 → v.work ≡ None → v.log ≡ [] → press_of v ≡ worked
    press_is v cs t k l = λ i. record { commits = cs i; target = t i; work = k i; log = l i }

-- where the machine stands, turn by turn
abbrev with_nodes : Press → (ℕ → Option Cache) → Standing
with_nodes p nodes = record { press = p; nodes = nodes }

abbrev no_node : ℕ → Option Cache
no_node n = None

abbrev one_node : Cache → ℕ → Option Cache
one_node cache n = cond (is_eq (nat_cmp 1 n)) (Some cache) None

first_turn : Turns events_site usual_limits first_standing 9 (command.Commit commit) (line (codes "committed 1")) (with_nodes committed no_node)
unfolding digits
first_turn = turns_commit events_site usual_limits first_standing 9 commit (Committed 1) committed refl

settle_turn : Turns events_site usual_limits (with_nodes committed no_node) 10 command.Settle (line (codes "settled 1 edition 1 bundles 1 expanded 1 joined 1 kept 0")) (with_nodes settled no_node)
unfolding digits
settle_turn = turns_settle events_site usual_limits (with_nodes committed no_node) settled 10 _ (λ w is slot. (counted, sym (ap (settled_text 1 1) counts_are), settles w is slot))

-- the node at first, once it has missed the page, and once the page is evicted
abbrev new : Cache
new = new_cache events_site usual_limits 4 Update

abbrev filled : Cache
filled = record new { number = 1; entries = shown ∷ [] }

abbrev emptied : Cache
emptied = record new { number = 1; entries = [] }

abbrev stands : Cache → Standing
stands cache = with_nodes settled (one_node cache)

replaces : (old cache : Cache) → PutsCache (one_node old) 1 cache (one_node cache)
replaces old cache n = by_tie (is_eq (nat_cmp 1 n))
  where
    by_tie : (b : Bool) → cond b (Some cache) None ≡ cond b (Some cache) (cond b (Some old) None)
    by_tie true = refl
    by_tie false = refl

at_path : (q : Path) → fin.get (edition (only ∷ [])) q ≡ fin.find text_cmp q ((path, shown) ∷ [])
at_path q = fin.get-entries (edition (only ∷ [])) q ∙ ap (fin.find text_cmp q) newest

abbrev absent : Path
absent = codes "/event/e2"

-- to catch up changes nothing
abbrev caught : Option Page → Cache
caught o = record new { number = 1; entries = filter_map (λ page. o) (shown ∷ []) }

still : catch_up (only ∷ []) filled ≡ filled
still = ap caught (at_path path)

missed_first : answer new (only ∷ []) 0 path true ≡ record { reply = Reply.Found 1 shown Miss; cache = filled }
missed_first = ap (missed (catch_up (only ∷ []) new) true) (at_path path)

absent_then : answer filled (only ∷ []) 0 absent true ≡ record { reply = Reply.Absent 1; cache = filled }
absent_then = ap (λ (c : Cache). refreshed c (edition (only ∷ [])) 0 absent true) still ∙ ap (missed filled true) (at_path absent)

hit_then : answer filled (only ∷ []) 0 path true ≡ record { reply = Reply.Found 1 shown Hit; cache = filled }
hit_then = refl

gets : (number : ℕ) (q : Path) (old cache : Cache) (reply : Reply) → tells_kept (answered reply) ≡ true → answer old (only ∷ []) 0 q true ≡ record { reply = reply; cache = cache }
    → Turns events_site usual_limits (stands old) number (command.Get 1 0 q) (told_text (answered reply)) (stands cache)
gets number q old cache reply kept is =
    turns_get events_site usual_limits (stands old) (stands cache) number 1 0 q old cache true reply refl (sym kept)
    (ap (λ (a : Answer). a.reply) (sym is)) (ap (λ (a : Answer). a.cache) (sym is)) refl (replaces old cache)

-- a command, its text, and where the machine stands then
record Answered : Type 0 where
  pub asks : Command
  pub text : Word
  pub leads : Standing

abbrev all_asked : List Answered → List Command
all_asked turns = map (λ t. t.asks) turns

abbrev all_said : List Answered → Word
all_said turns = flat_map (λ t. t.text) turns

abbrev AllTurn : Standing → ℕ → List Answered → Type 0
AllTurn s number [] = Unit {0}
AllTurn s number (t ∷ turns) = Turns events_site usual_limits s (number + 1) t.asks t.text t.leads × AllTurn t.leads (number + 1) turns

all_play : (s : Standing) (number : ℕ) (turns : List Answered) → AllTurn s number turns → PlaysFrom events_site usual_limits s number (all_asked turns) [] (all_said turns)
all_play s number [] h = plays_nothing events_site usual_limits s number []
all_play s number (t ∷ turns) h =
    plays_turn events_site usual_limits s t.leads number t.asks (all_asked turns) [] t.text (all_said turns) h.0 (all_play t.leads (number + 1) turns h.1)

-- the turns behind the settle, and all of them
abbrev later : List Answered
later =
    record { asks = command.Node 1 4 Update; text = line (codes "node 1"); leads = stands new } ∷
    (record { asks = command.Get 1 0 path; text = line (codes "found 1 1 miss 13") ++ line (codes "<h1>100m</h1>"); leads = stands filled } ∷
    (record { asks = command.Get 1 0 absent; text = line (codes "absent 1"); leads = stands filled } ∷
    (record { asks = command.Get 2 0 (codes "/"); text = line (codes "no node 2"); leads = stands filled } ∷
    (record { asks = command.Bad; text = line (codes "bad line 15"); leads = stands filled } ∷
    (record { asks = command.Node 1 4 Update; text = line (codes "node 1 taken"); leads = stands filled } ∷
    (record { asks = command.Get 1 0 path; text = line (codes "found 1 1 hit 13") ++ line (codes "<h1>100m</h1>"); leads = stands filled } ∷
    (record { asks = command.Evict 1 path; text = line (codes "evicted"); leads = stands emptied } ∷
    (record { asks = command.Deliver 1; text = line (codes "delivered 1 edition 1 entries 0"); leads = stands emptied } ∷ []))))))))

later_turn : AllTurn (with_nodes settled no_node) 10 later
unfolding digits
later_turn = (
  turns_made events_site usual_limits (with_nodes settled no_node) (stands new) 11 1 4 Update refl refl (λ n. refl),
  (gets 12 path new filled (Reply.Found 1 shown Miss) refl missed_first, last_turns),
)
  where
    last_turns : AllTurn (stands filled) 12 (drop 2 later)
    last_turns = (
      gets 13 absent filled filled (Reply.Absent 1) refl absent_then,
      (
        get_no_node events_site usual_limits (stands filled) 14 2 0 (codes "/") refl,
        (
          turns_bad events_site usual_limits (stands filled) 15,
          (
            turns_taken events_site usual_limits (stands filled) 16 1 4 Update filled refl,
            (
              gets 17 path filled filled (Reply.Found 1 shown Hit) refl hit_then,
              (
                turns_evict events_site usual_limits (stands filled) (stands emptied) 18 1 path filled emptied true refl refl refl refl (replaces filled emptied),
                (turns_deliver events_site usual_limits (stands emptied) (stands emptied) 19 1 emptied emptied refl refl refl (replaces emptied emptied), tt),
              ),
            ),
          ),
        ),
      ),
    )

abbrev all_turns : List Answered
all_turns =
    record { asks = command.Commit commit; text = line (codes "committed 1"); leads = with_nodes committed no_node } ∷
    (record { asks = command.Settle; text = line (codes "settled 1 edition 1 bundles 1 expanded 1 joined 1 kept 0"); leads = with_nodes settled no_node } ∷ later)

all_turn : AllTurn first_standing 8 all_turns
all_turn = (first_turn, (settle_turn, later_turn))

pub script_row : ScriptRow
script_row g h =
    let read : Reading = reading 0 0 input in
    let replied : MachinePlays events_site usual_limits [] 8 (command.Commit commit ∷ (command.Settle ∷ all_asked later)) [] (all_said all_turns) = all_play first_standing 8 all_turns all_turn [] first_stands in
    let played : PlaysScript (line_command g.feed) events_site 8 (script read) replied.0 (all_said all_turns) =
    subst (λ (m : Result Commit FeedRefusal). PlaysBy events_site usual_limits [] 8 (of_message m ∷ (command.Settle ∷ all_asked later)) replied.0 [] (all_said all_turns)) (sym h.feed) replied.1 in
    (replied.0, subst (λ (s : Result Parts SiteTextRefusal). DoesSite g Play (or_cause s) read replied.0 0 output) (sym h.site) (refl, (all_said all_turns, refl, played)))
