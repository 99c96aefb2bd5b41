-- The script of a generated day of results: a site, eight athletes, and n events, at each of which all eight
-- athletes get a place.
use Rattle.std.specs.Prelude.{ℕ, zero, suc, ◌+◌, ◌%◌, [], ◌++◌, codes, nat_le, if◌then◌else◌}
use Rattle.std.specs.Fmt.{decimal}
use Rattle.dup_names.specs.Words.{Word}

-- the site text, and the line that ends it
abbrev pub site : Word
site =
    codes "kind athlete name\nkind event title\nkind result event athlete place\n"
    ++ codes "template who of athlete\nlink athlete_page\nfield name\nend\nend\n"
    ++ codes "template line of result\n= <li>\nfield place\n= .\nembed who via athlete\n= </li>\nend\n"
    ++ codes "template event_page of event\n= <h1>\nfield title\n= </h1><ol>\n"
    ++ codes "each result by event order place\nembed line\nend\n= </ol>\nend\n"
    ++ codes "template athlete_page of athlete\n= <h1>\nfield name\n= </h1>\nend\n"
    ++ codes "template home\n= <ul>\neach event\n= <li>\nlink event_page\nfield title\nend\n"
    ++ codes "= </li>\nend\n= </ul>\nend\n"
    ++ codes "page / home\nfamily /event event_page\nfamily /athlete athlete_page\n---\n"

-- f 1, f 2 and so on to f n, one behind the other
abbrev pub each_to : (ℕ → Word) → ℕ → Word
each_to f zero = []
each_to f (suc n) = each_to f n ++ f (suc n)

-- a comma before each number but the first, and f of the number behind it
abbrev pub comma_before : ℕ → Word
comma_before j = if nat_le j 1 then [] else codes ","

abbrev pub behind_comma : (ℕ → Word) → ℕ → Word
behind_comma f j = comma_before j ++ f j

-- the line of a commit
abbrev pub commit : Word → Word
commit changes = codes "commit {\"changes\":[" ++ changes ++ codes "]}\n"

-- the put of athlete j, and that of the first one by another name
abbrev pub athlete : ℕ → Word
athlete j =
    codes "{\"put\":\"athlete\",\"key\":\"a" ++ decimal j
    ++ codes "\",\"fields\":{\"name\":\"Athlete " ++ decimal j ++ codes "\"}}"

abbrev pub champion : Word
champion = codes "{\"put\":\"athlete\",\"key\":\"a1\",\"fields\":{\"name\":\"Champion\"}}"

-- the put of event i
abbrev pub event : ℕ → Word
event i =
    codes "{\"put\":\"event\",\"key\":\"e" ++ decimal i
    ++ codes "\",\"fields\":{\"title\":\"Event " ++ decimal i ++ codes "\"}}"

-- the place of athlete j at event i, 1 to 8, and the put of that result
abbrev pub place : ℕ → ℕ → ℕ
place i j = (i + j) % 8 + 1

abbrev pub result : ℕ → ℕ → Word
result i j =
    codes "{\"put\":\"result\",\"key\":\"r" ++ decimal i ++ codes "_" ++ decimal j
    ++ codes "\",\"fields\":{\"athlete\":\"a" ++ decimal j ++ codes "\",\"event\":\"e" ++ decimal i
    ++ codes "\",\"place\":\"" ++ decimal (place i j) ++ codes "\"}}"

-- the way of a commit to the readers of the page of event i
abbrev pub settled : ℕ → Word
settled i =
    codes "settle\ndeliver 1\ndeliver 2\n"
    ++ codes "get 1 0 /event/e" ++ decimal i ++ codes "\nget 2 0 /event/e" ++ decimal i ++ codes "\n"

-- the two nodes
abbrev pub nodes : Word
nodes = codes "node 1 16 update\nnode 2 16 invalidate\n"

-- the commit of all athletes, that of event i, and that of the results at event i
abbrev pub athletes : Word
athletes = commit (each_to (behind_comma athlete) 8)

abbrev pub new_event : ℕ → Word
new_event i = commit (event i)

abbrev pub results : ℕ → Word
results i = commit (each_to (behind_comma (result i)) 8)

-- the first settle, and the requests for the home page
abbrev pub home : Word
home = codes "settle\nget 1 0 /\nget 2 0 /\n"

-- the day of event i
abbrev pub day_of_event : ℕ → Word
day_of_event i = results i ++ settled i

-- the end of the day: the new name, and the page of event n with it
abbrev pub end : ℕ → Word
end n = commit champion ++ settled n ++ codes "status\n"

-- the script of n events
abbrev pub games_text : ℕ → Word
games_text n =
    site ++ nodes ++ athletes ++ each_to new_event n ++ home ++ each_to day_of_event n ++ end n
