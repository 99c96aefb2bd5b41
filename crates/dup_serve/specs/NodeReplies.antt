-- What a node sends for a whole head that isn't refused.
use Rattle.std.specs.Prelude.{true, Bool, List, length, codes, Option, Some, None}
use Rattle.dup_names.specs.Words.{Word}
use Rattle.dup_model.specs.Answers.{How, Reply, answer}
use Rattle.dup_model.specs.Answers.How.{Hit, Miss, MissUnkept}
use Rattle.dup_model.specs.Answers.Reply.{Found, Absent, Ahead}
use Rattle.dup_model.specs.Caches.{Cache}
use Rattle.dup_model.specs.Editions.{Bundle}
use Rattle.dup_http.specs.declared.answer.Allow.TheVariants.{GetHead}
use Rattle.dup_http.specs.declared.answer.CacheWord.{CacheWord}
use Rattle.dup_http.specs.declared.answer.CacheWord.TheVariants.{Hit as HitWord, Miss as MissWord, Unkept as UnkeptWord}
use Rattle.dup_http.specs.declared.ask.Ask.{Ask}
use Rattle.dup_http.specs.declared.ask.Method.{Method}
use Rattle.dup_http.specs.declared.ask.Method.TheVariants.{Get, Head, Post, Other}
use Rattle.dup_serve.specs.Sent.{Sent, said, absent, not_allowed, sent_text}

-- the word of where a page came from
abbrev pub cache_word : How → CacheWord
cache_word Hit = HitWord
cache_word Miss = MissWord
cache_word MissUnkept = UnkeptWord

-- what is sent for a reply
abbrev pub replied : Reply → Sent
replied (Found edition page how) = record {
  answer = record {
    code = 200;
    page = true;
    length = length page.look.bytes;
    allow = None;
    edition = Some edition;
    version = Some page.version;
    pass = None;
    cache = Some (cache_word how);
  };
  body = page.look.bytes;
}
replied (Absent edition) = record absent { answer = record absent.answer { edition = Some edition } }
replied (Ahead pass edition) =
    let ahead = said 503 (codes "ahead") in
    record ahead { answer = record ahead.answer { edition = Some edition; pass = Some pass } }

-- what is sent where the reply at each path is known: without a path it is absent, and no edition is named
abbrev pub at_path : Option Word → (Word → Reply) → Sent
at_path None reply = absent
at_path (Some path) reply = replied (reply path)

-- what is sent where a method has this; no method but GET and HEAD is allowed
abbrev pub by_method : Method → Sent → Sent
by_method Get sent = sent
by_method Head sent = sent
by_method Post sent = not_allowed GetHead
by_method Other sent = not_allowed GetHead

-- the table of a node, by the reply at each path: the method is looked at first, then the path, then the
-- reply
abbrev pub node_table : Ask → (Word → Reply) → Sent
node_table ask reply = by_method ask.method (at_path ask.path reply)

-- what a node writes for an ask, by its cache before it, the log of its window, and whether a page that it
-- misses is kept
abbrev pub node_text : Cache → List Bundle → Bool → Ask → Word
node_text cache log kept ask =
    sent_text ask.method (node_table ask (λ path. (answer cache log ask.pass path kept).reply))
