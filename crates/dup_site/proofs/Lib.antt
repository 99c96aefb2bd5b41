mod Utf8
mod LineCuts
mod LinesSayParts
mod WrittenLines
mod SpelledLines
mod OpenStack
pub mod NamesRead
mod StatementSizes
mod GoesAlong
mod GoesAlongPast
mod KeptBreaksSame
mod KeepsSaid
mod SameFirstFault
mod GoesAlongTooDeep
mod KeepGoesAlong
mod DraftLines
mod LinesAgain
mod BadLines
mod LinesGoOn
pub mod TextLines
pub mod BodyTexts
pub mod SaidBodies
pub mod BodiesInTexts
pub mod PlainLengths
