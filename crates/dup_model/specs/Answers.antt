-- What a request is answered. The law above: `serving_law`.
use Rattle.std.specs.Prelude.{ℕ, nat_lt, nat_le, Bool, true, false, List, Option, Some, None, if◌then◌else◌}
use Rattle.std.specs.FinMap as fin
use Rattle.dup_names.specs.Words.{Path}
use Rattle.dup_model.specs.Editions.{Page, Edition, Bundle, edition}
use Rattle.dup_model.specs.Caches.{Cache, catch_up, entry, with_first}

pub data How : Type 0 where
  Hit : How
  Miss : How
  MissUnkept : How

pub data Reply : Type 0 where
  Found : ℕ → Page → How → Reply
  Absent : ℕ → Reply
  Ahead : ℕ → ℕ → Reply

pub record Answer : Type 0 where
  pub reply : Reply
  pub cache : Cache

abbrev pub missed : Cache → Bool → Option Page → Answer
missed cache kept None = record { reply = Absent cache.number; cache = cache }
missed cache true (Some page) = record { reply = Found cache.number page Miss; cache = with_first page cache }
missed cache false (Some page) = record { reply = Found cache.number page MissUnkept; cache = cache }

abbrev pub after_refresh : Cache → Edition → Path → Bool → Option Page → Answer
after_refresh cache e path kept (Some page) =
    record { reply = Found cache.number page Hit; cache = with_first page cache }
after_refresh cache e path kept None = missed cache kept (fin.get e path)

-- the cache has caught up
abbrev pub refreshed : Cache → Edition → ℕ → Path → Bool → Answer
refreshed cache e pass path kept =
    if nat_lt cache.number pass then record { reply = Ahead pass cache.number; cache = cache }
    else after_refresh cache e path kept (entry cache path)

abbrev pub answer_at : Cache → List Bundle → ℕ → Path → Bool → Option Page → Answer
answer_at cache log pass path kept (Some page) =
    record { reply = Found cache.number page Hit; cache = with_first page cache }
answer_at cache log pass path kept None = refreshed (catch_up log cache) (edition log) pass path kept

abbrev pub answer : Cache → List Bundle → ℕ → Path → Bool → Answer
answer cache log pass path kept =
    answer_at cache log pass path kept (if nat_le pass cache.number then entry cache path else None)
