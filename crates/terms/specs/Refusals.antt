-- The number of each refusal: document 01's, and 02's from 15 on.
use Rattle.std.specs.Prelude.{ℕ}
use Rattle.terms.specs.declared.refusals.Refusal.{Refusal}
use Rattle.terms.specs.declared.refusals.Refusal.TheVariants.{EmptyOrTooLong, WrongFirstByte, EndsInsideField, OutOfRange, TooManyOrTooDeep, NoSuchColumn, BytesAfterEnd, TooFewArguments, BufferTooShort, NoGoodPlan, PlanEmpty, AlreadyExtracted, NoLeafMatches, NotHexadecimal, TextBufferTooShort, MergedTooLarge, TableTooShort, NotExtracted, ListTooLong, NoSuchChild, NoSuchQueue, QueuedFrameTooLong, QueueFull, BadSettings}

abbrev pub number_of : Refusal → ℕ
number_of EmptyOrTooLong = 1
number_of WrongFirstByte = 2
number_of EndsInsideField = 3
number_of OutOfRange = 4
number_of TooManyOrTooDeep = 5
number_of NoSuchColumn = 6
number_of BytesAfterEnd = 7
number_of TooFewArguments = 8
number_of BufferTooShort = 9
number_of NoGoodPlan = 10
number_of PlanEmpty = 11
number_of AlreadyExtracted = 12
number_of NoLeafMatches = 13
number_of NotHexadecimal = 14
number_of TextBufferTooShort = 15
number_of MergedTooLarge = 16
number_of TableTooShort = 17
number_of NotExtracted = 18
number_of ListTooLong = 19
number_of NoSuchChild = 20
number_of NoSuchQueue = 21
number_of QueuedFrameTooLong = 22
number_of QueueFull = 23
number_of BadSettings = 24
