-- Replies, as the definitions have them.
use Rattle.std.specs.Prelude.{◌≡◌, nat_le, ℕ, Bool, true, false, List, Option, None, if◌then◌else◌}
use Rattle.std.specs.Option.{option_map_or}
use Rattle.dup_names.specs.Words.{Path}
use Rattle.dup_model.specs.Answers as answers
use Rattle.dup_model.specs.Answers.{Answer, answer}
use Rattle.dup_model.specs.Caches.{Cache, entry, with_first}
use Rattle.dup_model.specs.Editions.{Bundle, Page}
use Rattle.dup_cache.specs.declared.how.How.{How}
use Rattle.dup_cache.specs.declared.how.How.TheVariants.{Hit, Miss, MissUnkept}
use Rattle.dup_node.specs.declared.reply.Reply.{Reply}
use Rattle.dup_node.specs.declared.reply.Reply.TheVariants.{Found, Absent, Ahead}

abbrev pub how_told : How → answers.How
how_told Hit = answers.How.Hit
how_told Miss = answers.How.Miss
how_told MissUnkept = answers.How.MissUnkept

abbrev pub reply_told : Reply → answers.Reply
reply_told (Found edition page how) = answers.Reply.Found edition page.value (how_told how)
reply_told (Absent edition) = answers.Reply.Absent edition
reply_told (Ahead pass edition) = answers.Reply.Ahead pass.0 edition

-- a page that was missed could be kept
abbrev pub was_kept : How → Bool
was_kept Hit = true
was_kept Miss = true
was_kept MissUnkept = false

-- no want of memory shows in the reply
abbrev pub is_kept : Reply → Bool
is_kept (Found edition page how) = was_kept how
is_kept (Absent edition) = true
is_kept (Ahead pass edition) = true

-- the reply, and the cache behind it, are this answer
abbrev pub Gives : Answer → Reply → Cache → Type 0
Gives a reply new = (reply_told reply ≡ a.reply) × (new ≡ a.cache)

-- they are the answer to a request over a log, where want of memory to keep a page shows in the reply
abbrev pub IsAnswered : Cache → List Bundle → ℕ → Path → Reply → Cache → Type 0
IsAnswered old log pass path reply new = Gives (answer old log pass path (is_kept reply)) reply new

-- the entry of a path in a cache that is no older than the pass
abbrev pub ready : Cache → ℕ → Path → Option Page
ready cache pass path = if nat_le pass cache.number then entry cache path else None

-- such an entry stands first
abbrev pub hit : Cache → Option Page → Cache
hit cache found = option_map_or (λ page. with_first page cache) found cache
