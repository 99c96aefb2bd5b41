-- A worked example: a cache of two pages that catches up over 64 and over 65 bundles, each of which puts one
-- of them anew.
use Rattle.std.specs.Prelude.{◌≡◌, ℕ, List, [], ◌∷◌, ◌++◌, Some, codes, replicate}
use Rattle.dup_names.specs.Words.{Word}
use Rattle.dup_names.specs.declared.object.Obj.{Obj}
use Rattle.dup_model.specs.Editions.{Page, Bundle}
use Rattle.dup_model.specs.Caches.{Cache, catch_up}
use Rattle.dup_model.specs.declared.mode.Mode.{Mode}
use Rattle.dup_model.specs.declared.mode.Mode.TheVariants.{Invalidate, Update}

abbrev pub event_page : Word → ℕ → Word → Page
event_page key version bytes =
    let o : Obj = record { template = 0; key = Some key } in
    record {
      path = codes "/event/" ++ key;
      version = version;
      look = record { obj = o; bytes = bytes; uses = (o, bytes) ∷ []; links = [] };
    }

abbrev pub old_one : Page
old_one = event_page (codes "e1") 1 (codes "<h1>A</h1>")

abbrev pub two : Page
two = event_page (codes "e2") 1 (codes "<h1>B</h1>")

abbrev pub new_one : Page
new_one = event_page (codes "e1") 2 (codes "<h1>C</h1>")

abbrev pub put_of : Page → Bundle
put_of page = record { version = page.version; commits = []; puts = page ∷ []; drops = [] }

-- both pages, and then the first again and again
abbrev pub log_of : ℕ → List Bundle
log_of times = put_of old_one ∷ (put_of two ∷ replicate times (put_of new_one))

abbrev pub cache_of : Mode → ℕ → List Page → Cache
cache_of mode number entries = record { capacity = 4; mode = mode; number = number; entries = entries }

pub record CatchUpRow : Type 0 where
  pub invalidate_64 : catch_up (log_of 64) (cache_of Invalidate 2 (two
      ∷ (old_one ∷ []))) ≡ cache_of Invalidate 66 (two ∷ [])
  pub invalidate_65 : catch_up (log_of 65) (cache_of Invalidate 2 (two
      ∷ (old_one ∷ []))) ≡ cache_of Invalidate 67 []
  pub update_64 : catch_up (log_of 64) (cache_of Update 2 (two ∷ (old_one ∷ []))) ≡ cache_of Update 66 (two
      ∷ (new_one ∷ []))
  pub update_65 : catch_up (log_of 65) (cache_of Update 2 (two ∷ (old_one ∷ []))) ≡ cache_of Update 67 (two
      ∷ (new_one ∷ []))
