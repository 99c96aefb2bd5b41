use Rattle.dup_feed.proofs.Utf8Words.{utf8_key}
use Rattle.dup_feed.proofs.writing.key_str.Goals as goal

pub str_of-requires : goal.str_of-requires
str_of-requires c = rw c.bytes.ensures.value (utf8_key _ c.bytes.ensures.valid)
